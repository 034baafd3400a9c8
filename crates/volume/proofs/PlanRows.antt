-- What plans cost, which numbers are the lowest, and which page is given back, computed from the definitions.
use Rattle.std.proofs.Common.{◌≡◌, ◌≢◌, ◌⊎◌, inl, inr, ℕ, zero, suc, ◌+◌, ◌<◌, Bool, true, false, List, [], ◌∷◌, Option, Some, None, refl, arith}
use Rattle.std.specs.Prelude.{Contains, slice_index}
use Rattle.std.proofs.lemmas.List.Kept.{AllPairs-from_increasing}
use Rattle.layout.specs.Geometry.{page_of_slot}
use Rattle.layout.specs.Fields.{slot_inode}
use Rattle.layout.specs.declared.kinds.NodeKind.{NodeKind}
use Rattle.layout.specs.declared.kinds.NodeKind.TheVariants.{File, Directory}
use Rattle.volume.specs.Lowest.{AreLowestOf}
use Rattle.volume.specs.Moves.{rising_of, falling_of}
use Rattle.volume.specs.declared.plan.Moving.{Moving}
use Rattle.volume.specs.declared.plan.Action.{Action}
use Rattle.volume.specs.declared.plan.Action.TheVariants.{Make, Name, Remove, Move, Write as WriteBytes, WriteNothing, Resize, KeepSize, KeepNames, Space}
use Rattle.volume.specs.declared.plan.Loss.{Loss}
use Rattle.volume.specs.Planned.{IsAlone, IsGivenBack}
use Rattle.volume.specs.Costs.{events_of, kept_events, reserved_events, fences_of_plan, events_with_mark, fences_with_mark}

-- ---- actions

abbrev new_node : NodeKind → Option ℕ → Action
new_node kind page = Make (record { kind = kind; directory = 1; name = 97 ∷ []; inode = 2; slot = 0; new_page = page })

abbrev new_name : Option ℕ → Action
new_name page = Name (record { directory = 1; name = 97 ∷ []; inode = 2; slot = 0; new_page = page })

abbrev lost : NodeKind → Bool → ℕ → Loss
lost kind goes pages = record { inode = 5; kind = kind; goes = goes; pages = pages }

abbrev removed : NodeKind → Bool → ℕ → Option ℕ → Action
removed kind goes pages given = Remove (record { directory = 1; name = 97 ∷ []; slot = 0; loss = lost kind goes pages; given_back = given })

abbrev moved : NodeKind → ℕ → Option ℕ → Option Loss → Option ℕ → Moving
moved kind to page replaced given = record {
  inode = 2;
  kind = kind;
  from_directory = 1;
  from_name = 97 ∷ [];
  from_slot = 0;
  to_directory = to;
  to_name = 98 ∷ [];
  to_slot = 1;
  new_page = page;
  replaced = replaced;
  given_back = given;
}

abbrev written : ℕ → ℕ → ℕ → List ℕ → Action
written old offset count pages = WriteBytes (record { inode = 2; offset = offset; count = count; old_size = old; new_pages = pages })

abbrev resized : ℕ → ℕ → List ℕ → ℕ → Action
resized old size pages cut = Resize (record { inode = 2; old_size = old; new_size = size; new_pages = pages; cut = cut })

-- the events of a plan, and its fences
abbrev Costs : Action → ℕ → ℕ → Type 0
Costs action events fences = (events_of action ≡ events) × (fences_of_plan action ≡ fences)

-- ---- names

files_made : Costs (new_node File None) 25 2 × Costs (new_node File (Some 7)) 591 3
files_made = ((refl, refl), (refl, refl))

directories_made : Costs (new_node Directory None) 27 2 × Costs (new_node Directory (Some 7)) 593 3
directories_made = ((refl, refl), (refl, refl))

links_made : Costs (new_name None) 22 2 × Costs (new_name (Some 7)) 588 3
links_made = ((refl, refl), (refl, refl))

unlinks : Costs (removed File false 0 None) 23 2 × Costs (removed File true 0 None) 29 3 × Costs (removed File true 1 (Some 0)) 40 4
unlinks = ((refl, refl), (refl, refl), (refl, refl))

rmdirs : Costs (removed Directory true 0 None) 29 3 × Costs (removed Directory true 0 (Some 0)) 35 4
rmdirs = ((refl, refl), (refl, refl))

-- ---- moves

files_move : Costs (Move (moved File 1 None None None)) 44 4
files_move = (refl, refl)

directories_move : Costs (Move (moved Directory 3 None None None)) 48 4 × Costs (Move (moved Directory 3 (Some 7) None (Some 0))) 623 8
directories_move = ((refl, refl), (refl, refl))

files_replaced : Costs (Move (moved File 1 None (Some (lost File false 0)) None)) 31 4 × Costs (Move (moved File 1 None (Some (lost File true 0)) None)) 37 5
    × Costs (Move (moved File 1 None (Some (lost File true 2)) (Some 0))) 53 6
files_replaced = ((refl, refl), (refl, refl), (refl, refl))

directories_replaced : Costs (Move (moved Directory 1 None (Some (lost Directory true 0)) None)) 37 5 × Costs (Move (moved Directory 3 None (Some (lost Directory true 0)) None)) 37 5
directories_replaced = ((refl, refl), (refl, refl))

-- which links rise, and which fall
abbrev Counts : Moving → Option ℕ → Option ℕ → Type 0
Counts moving rises falls = (rising_of moving ≡ rises) × (falling_of moving ≡ falls)

directories_counted : Counts (moved Directory 1 None None None) None None × Counts (moved Directory 3 None None None) (Some 3) (Some 1)
    × Counts (moved Directory 1 None (Some (lost Directory true 0)) None) None (Some 1) × Counts (moved Directory 3 None (Some (lost Directory true 0)) None) None (Some 1)
directories_counted = ((refl, refl), (refl, refl), (refl, refl), (refl, refl))

files_counted : Counts (moved File 1 None None None) None None × Counts (moved File 3 None None None) None None × Counts (moved File 1 None (Some (lost File true 0)) None) None (Some 5)
files_counted = ((refl, refl), (refl, refl), (refl, refl))

-- ---- contents

writes_inside : Costs (written 8200 4093 9 []) 5 1
writes_inside = (refl, refl)

writes_in_the_last_page : Costs (written 2 1 3 []) 580 2 × Costs (written 5 8 1 []) 580 2 × Costs (written 8 8 1 []) 579 2
writes_in_the_last_page = ((refl, refl), (refl, refl), (refl, refl))

writes_in_new_pages : Costs (written 0 0 2 (7 ∷ [])) 586 3 × Costs (written 4096 4095 2 (7 ∷ [])) 588 3 × Costs (written 4097 16384 1 (7 ∷ 8 ∷ 9 ∷ [])) 2324 3
writes_in_new_pages = ((refl, refl), (refl, refl), (refl, refl))

grown : Costs (resized 0 9000 (7 ∷ 8 ∷ 9 ∷ []) 0) 1748 3 × Costs (resized 9000 9001 [] 0) 467 2 × Costs (resized 4096 4097 (7 ∷ []) 0) 586 3
grown = ((refl, refl), (refl, refl), (refl, refl))

cut : Costs (resized 9001 8193 [] 0) 3 1 × Costs (resized 9001 8192 [] 1) 10 3 × Costs (resized 9001 0 [] 3) 20 3
cut = ((refl, refl), (refl, refl), (refl, refl))

nothing : Costs WriteNothing 0 0 × Costs KeepSize 0 0 × Costs KeepNames 0 0
nothing = ((refl, refl), (refl, refl), (refl, refl))

-- ---- what is reserved

reserved : (reserved_events true 7 Space ≡ 0) × (reserved_events true 7 KeepNames ≡ 0) × (reserved_events false 0 (new_node File None) ≡ 28) × (reserved_events true 0 (new_node File None) ≡ 31)
reserved = (refl, refl, refl, refl)

-- and beside calls that run
reserved_beside : (reserved_events false 591 (new_node File None) ≡ 619) × (reserved_events true 591 (new_node File None) ≡ 622)
reserved_beside = (refl, refl)

kept : (kept_events false ≡ 3) × (kept_events true ≡ 6)
kept = (refl, refl)

-- ---- the mark

unmarks : (fences_with_mark true 0 ≡ 0) × (fences_with_mark true 4 ≡ 5) × (fences_with_mark false 4 ≡ 4)
unmarks = (refl, refl, refl)

unmark_costs : (events_with_mark true 0 0 ≡ 0) × (events_with_mark true 4 30 ≡ 33) × (events_with_mark false 4 30 ≡ 30)
unmark_costs = (refl, refl, refl)

-- ---- the lowest of 3, 5 and 7

abbrev IsOneOfThree : ℕ → Type 0
IsOneOfThree k = (k ≡ 3) ⊎ (k ≡ 5) ⊎ (k ≡ 7)

among_two : (a b k : ℕ) → Contains (a ∷ b ∷ []) k → (k ≡ a) ⊎ (k ≡ b)
among_two a b k (zero, low, is) = inl (omega (arith, is))
among_two a b k (suc zero, low, is) = inr (omega (arith, is))
among_two a b k (suc (suc n), low, is) = absurd (omega (arith, low))

two_lowest : AreLowestOf IsOneOfThree 2 (3 ∷ 5 ∷ [])
two_lowest = record {
  count_is = refl;
  rising = AllPairs-from_increasing (3 ∷ 5 ∷ []) rises;
  each = λ k among. elim (among_two 3 5 k among) [ inl is ↦ inl is | inr is ↦ inr (inl is) ];
  lowest = λ k other among less one. elim one [
    | inl is ↦ (0, omega arith, omega (arith, is))
    | inr later ↦ elim later [
      | inl is ↦ (1, omega arith, omega (arith, is))
      | inr is ↦ absurd (too_high k other (among_two 3 5 k among) less is)
    ]
  ];
}
  where
    rises : (k : ℕ) → k + 1 < 2 → slice_index (3 ∷ 5 ∷ []) k < slice_index (3 ∷ 5 ∷ []) (k + 1)
    rises zero low = omega arith
    rises (suc k) low = absurd (omega (arith, low))

    too_high : (k other : ℕ) → (k ≡ 3) ⊎ (k ≡ 5) → other < k → other ≡ 7 → ⊥
    too_high k other (inl is) less seven = omega (arith, is, less, seven)
    too_high k other (inr is) less seven = omega (arith, is, less, seven)

one_left_out : ¬ AreLowestOf IsOneOfThree 2 (3 ∷ 7 ∷ [])
one_left_out are = no (among_two 3 7 5 (are.lowest 7 5 (1, omega arith, refl) (omega arith) (inr (inl refl))))
  where
    no : (◌≡◌ {A = ℕ} 5 3) ⊎ (◌≡◌ {A = ℕ} 5 7) → ⊥
    no (inl is) = omega (arith, is)
    no (inr is) = omega (arith, is)

not_rising : ¬ AreLowestOf IsOneOfThree 2 (5 ∷ 3 ∷ [])
not_rising are = let rises : 5 < 3 = are.rising 0 1 0 (omega arith) (omega arith) in omega (arith, rises)

-- ---- a page that is given back

-- not where another slot of it has a number
page_in_use : (P : ℕ) (I : List ℕ) (slot other page : ℕ) → page_of_slot other ≡ page_of_slot slot → other ≢ slot → slot_inode P I other ≢ 0 → ¬ IsGivenBack (IsAlone P I slot) slot (Some page)
page_in_use P I slot other page same differs named given = named (given.0 other same differs)

-- and always where none has
page_kept : (P : ℕ) (I : List ℕ) (slot : ℕ) → IsAlone P I slot → ¬ IsGivenBack (IsAlone P I slot) slot None
page_kept P I slot alone kept = kept alone

-- no other page
another_page : (P : ℕ) (I : List ℕ) (slot page : ℕ) → page ≢ page_of_slot slot → ¬ IsGivenBack (IsAlone P I slot) slot (Some page)
another_page P I slot page differs given = differs given.1

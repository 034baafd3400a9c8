-- Calls as a list by sessions, and what they have left in whatever order: one call taken to the front leaves the same places.
use Rattle.std.proofs.Common.{◌≡◌, ◌↔◌, ◌⊎◌, inl, inr, ℕ, zero, suc, ◌+◌, ◌<◌, List, [], ◌∷◌, ◌++◌, length, length-append, set, Option, None, Some}
use Rattle.std.proofs.Common.{refl, sym, ap, subst, ◌∙◌, arith}
use Rattle.std.specs.Option.{option_or}
use Rattle.image_reading.specs.Counts.{IsIn, IsDistinct, IsListOf}
use Rattle.image_reading.specs.Residue.{Residue, no_residue, IsTidyBeside}
use Rattle.image_counts.specs.Laws.{supply_beside}
use Rattle.image_counts.proofs.Distinct.{in_front, in_back, in_either, distinct_both}
use Rattle.weave_laws.specs.Joined.{joined, HasSamePlaces}
use Rattle.weave_laws.proofs.Listed.{distinct_rest, distinct_apart}
use Rattle.volume.specs.Volume.{VolumeView}
use Rattle.running_laws.specs.Waits.{left_by}
use Rattle.session_laws.specs.Calls.{Call, Calls, call_at, without, left_of_all, events_of_all, events_of_call}

-- ---- what a session runs

pub call_put : (calls : Calls) (s : ℕ) (call : Option Call) → s < length calls → call_at (set calls s call) s ≡ call
call_put [] s call below = absurd (omega (arith, below))
call_put (first ∷ calls) zero call below = refl
call_put (first ∷ calls) (suc s) call below = call_put calls s call (omega (arith, below))

pub call_other : (calls : Calls) (s r : ℕ) (call : Option Call) → (s ≡ r → ⊥) → call_at (set calls s call) r ≡ call_at calls r
call_other [] s r call other = refl
call_other (first ∷ calls) zero zero call other = absurd (other refl)
call_other (first ∷ calls) zero (suc r) call other = refl
call_other (first ∷ calls) (suc s) zero call other = refl
call_other (first ∷ calls) (suc s) (suc r) call other = call_other calls s r call (λ same. other (ap suc same))

pub call_gone : (calls : Calls) (s : ℕ) → call_at (without calls s) s ≡ None
call_gone [] s = refl
call_gone (first ∷ calls) zero = refl
call_gone (first ∷ calls) (suc s) = call_gone calls s

-- a call of a session is not that of one which runs none
pub runs_other : (calls : Calls) (s r : ℕ) (call : Call) → call_at calls s ≡ None → call_at calls r ≡ Some call → s ≡ r → ⊥
runs_other calls s r call none runs same = cc

-- each of the others stands as it did
pub call_kept : (calls : Calls) (s r : ℕ) (call : Call) → call_at (without calls s) r ≡ Some call → (s ≡ r → ⊥) × (call_at calls r ≡ Some call)
call_kept calls s r call runs =
    let other = runs_other (without calls s) s r call (call_gone calls s) runs in
    (other, sym (call_other calls s r None other) ∙ runs)

pub call_among : (calls : Calls) (s r : ℕ) (call : Call) → (s ≡ r → ⊥) → call_at calls r ≡ Some call → call_at (without calls s) r ≡ Some call
call_among calls s r call other runs = call_other calls s r None other ∙ runs

-- a call that is put in is the new one, or one that stood there
pub call_set : (calls : Calls) (s r : ℕ) (now : Option Call) (call : Call) → call_at (set calls s now) r ≡ Some call
    → ((s ≡ r) × (now ≡ Some call)) ⊎ ((s ≡ r → ⊥) × (call_at calls r ≡ Some call))
call_set [] s r now call runs = cc
call_set (first ∷ calls) zero zero now call runs = inl (refl, runs)
call_set (first ∷ calls) zero (suc r) now call runs = inr ((λ same. omega (arith, same)), runs)
call_set (first ∷ calls) (suc s) zero now call runs = inr ((λ same. omega (arith, same)), runs)
call_set (first ∷ calls) (suc s) (suc r) now call runs = elim (call_set calls s r now call runs) [
  | inl here ↦ inl (ap suc here.0, here.1)
  | inr there ↦ inr ((λ same. there.0 (omega (arith, same))), there.1)
]

-- ---- lists without a call

pub without_idle : (calls : Calls) (s : ℕ) → call_at calls s ≡ None → without calls s ≡ calls
without_idle [] s idle = refl
without_idle (first ∷ calls) zero idle = ap (λ (call : Option Call). call ∷ calls) (sym idle)
without_idle (first ∷ calls) (suc s) idle = ap (λ (rest : Calls). first ∷ rest) (without_idle calls s idle)

pub without_set : (calls : Calls) (s : ℕ) (call : Option Call) → without (set calls s call) s ≡ without calls s
without_set [] s call = refl
without_set (first ∷ calls) zero call = refl
without_set (first ∷ calls) (suc s) call = ap (λ (rest : Calls). first ∷ rest) (without_set calls s call)

-- what is put in where none runs is taken out again
pub without_put : (calls : Calls) (s : ℕ) (call : Option Call) → call_at calls s ≡ None → without (set calls s call) s ≡ calls
without_put calls s call idle = without_set calls s call ∙ without_idle calls s idle

pub without_other : (calls : Calls) (s r : ℕ) (call : Option Call) → (s ≡ r → ⊥) → without (set calls s call) r ≡ set (without calls r) s call
without_other [] s r call other = refl
without_other (first ∷ calls) zero zero call other = absurd (other refl)
without_other (first ∷ calls) zero (suc r) call other = refl
without_other (first ∷ calls) (suc s) zero call other = refl
without_other (first ∷ calls) (suc s) (suc r) call other = ap (λ (rest : Calls). first ∷ rest) (without_other calls s r call (λ same. other (ap suc same)))

pub without_both : (calls : Calls) (s r : ℕ) → (s ≡ r → ⊥) → without (without calls s) r ≡ without (without calls r) s
without_both calls s r other = without_other calls s r None other

-- ---- what is left of all

-- where none runs nothing is left
pub left_idle : (volume : VolumeView) (calls : Calls) → ((s : ℕ) → call_at calls s ≡ None) → left_of_all volume calls ≡ no_residue
left_idle volume [] idle = refl
left_idle volume (None ∷ calls) idle = left_idle volume calls (λ s. idle (suc s))
left_idle volume (Some call ∷ calls) idle = let some = idle 0 in cc

pub events_idle : (volume : VolumeView) (calls : Calls) → ((s : ℕ) → call_at calls s ≡ None) → events_of_all volume calls ≡ 0
events_idle volume [] idle = refl
events_idle volume (None ∷ calls) idle = events_idle volume calls (λ s. idle (suc s))
events_idle volume (Some call ∷ calls) idle = let some = idle 0 in cc

-- the events of one are taken to the front
pub events_moved : (volume : VolumeView) (calls : Calls) (s : ℕ) (call : Call) → call_at calls s ≡ Some call
    → events_of_all volume calls ≡ events_of_call volume call + events_of_all volume (without calls s)
events_moved volume [] s call runs = cc
events_moved volume (None ∷ calls) zero call runs = cc
events_moved volume (None ∷ calls) (suc s) call runs = events_moved volume calls s call runs
events_moved volume (Some first ∷ calls) zero call runs =
    let same : first ≡ call = cc in ap (λ (other : Call). events_of_call volume other + events_of_all volume calls) same
events_moved volume (Some first ∷ calls) (suc s) call runs = let moved = events_moved volume calls s call runs in omega (arith, moved)

-- Where each has left the same, so have all, and with the same events to come.
pub left_stays : (old new : VolumeView) (calls : Calls) → ((s : ℕ) (call : Call) → call_at calls s ≡ Some call → left_by new call.running ≡ left_by old call.running)
    → left_of_all new calls ≡ left_of_all old calls
left_stays old new [] each = refl
left_stays old new (None ∷ calls) each = left_stays old new calls (λ s. each (suc s))
left_stays old new (Some call ∷ calls) each =
    ap (λ (left : Residue). joined left (left_of_all new calls)) (each 0 call refl) ∙ ap (joined (left_by old call.running)) (left_stays old new calls (λ s. each (suc s)))

pub events_stay : (old new : VolumeView) (calls : Calls) → ((s : ℕ) (call : Call) → call_at calls s ≡ Some call → events_of_call new call ≡ events_of_call old call)
    → events_of_all new calls ≡ events_of_all old calls
events_stay old new [] each = refl
events_stay old new (None ∷ calls) each = events_stay old new calls (λ s. each (suc s))
events_stay old new (Some call ∷ calls) each =
    ap (λ (n : ℕ). n + events_of_all new calls) (each 0 call refl) ∙ ap (λ (n : ℕ). events_of_call old call + n) (events_stay old new calls (λ s. each (suc s)))

-- the number is a place that one of them has left
abbrev pub IsLeftByOne : VolumeView → Calls → (Residue → List ℕ) → ℕ → Type 0
IsLeftByOne volume calls places x = (s : ℕ) × (call : Call) × (call_at calls s ≡ Some call) × IsIn x (places (left_by volume call.running))

-- Places of one kind, as the slots, are left together by all.
module _ (volume : VolumeView) (places : Residue → List ℕ) (none : places no_residue ≡ [])
    (both : (one other : Residue) → places (joined one other) ≡ places one ++ places other) where
  abbrev here : Call → List ℕ
  here call = places (left_by volume call.running)

  abbrev there : Calls → List ℕ
  there calls = places (left_of_all volume calls)

  together : (call : Call) (calls : Calls) → there (Some call ∷ calls) ≡ here call ++ there calls
  together call calls = both (left_by volume call.running) (left_of_all volume calls)

  -- each is left by one call,
  pub left_by_one : (calls : Calls) (x : ℕ) → IsIn x (places (left_of_all volume calls)) → IsLeftByOne volume calls places x
  left_by_one [] x among = absurd (subst (IsIn x) none among)
  left_by_one (None ∷ calls) x among = let (s, call, runs, left) = left_by_one calls x among in (suc s, call, runs, left)
  left_by_one (Some call ∷ calls) x among = elim (in_either x (here call) (there calls) (subst (IsIn x) (together call calls) among)) [
    | inl first ↦ (0, call, refl, first)
    | inr later ↦ let (s, other, runs, left) = left_by_one calls x later in (suc s, other, runs, left)
  ]

  -- and what one has left is among them
  pub left_among : (calls : Calls) (s : ℕ) (call : Call) (x : ℕ) → call_at calls s ≡ Some call → IsIn x (places (left_by volume call.running))
      → IsIn x (places (left_of_all volume calls))
  left_among [] s call x runs left = cc
  left_among (None ∷ calls) zero call x runs left = cc
  left_among (None ∷ calls) (suc s) call x runs left = left_among calls s call x runs left
  left_among (Some first ∷ calls) zero call x runs left =
      let same : call ≡ first = cc in
      subst (IsIn x) (sym (together first calls)) (in_front x (here first) (there calls) (subst (λ (other : Call). IsIn x (here other)) same left))
  left_among (Some first ∷ calls) (suc s) call x runs left =
      subst (IsIn x) (sym (together first calls)) (in_back x (here first) (there calls) (left_among calls s call x runs left))

pub slot_left : (volume : VolumeView) (calls : Calls) (x : ℕ) → IsIn x (left_of_all volume calls).slots → IsLeftByOne volume calls (λ residue. residue.slots) x
slot_left volume = left_by_one volume (λ residue. residue.slots) refl (λ one other. refl)

pub page_left : (volume : VolumeView) (calls : Calls) (x : ℕ) → IsIn x (left_of_all volume calls).pages → IsLeftByOne volume calls (λ residue. residue.pages) x
page_left volume = left_by_one volume (λ residue. residue.pages) refl (λ one other. refl)

pub inode_left : (volume : VolumeView) (calls : Calls) (x : ℕ) → IsIn x (left_of_all volume calls).inodes → IsLeftByOne volume calls (λ residue. residue.inodes) x
inode_left volume = left_by_one volume (λ residue. residue.inodes) refl (λ one other. refl)

pub count_left : (volume : VolumeView) (calls : Calls) (x : ℕ) → IsIn x (left_of_all volume calls).counts → IsLeftByOne volume calls (λ residue. residue.counts) x
count_left volume = left_by_one volume (λ residue. residue.counts) refl (λ one other. refl)

-- ---- lists of the same numbers

-- in whatever order, and each as often
pub record HasSameNumbers (xs ys : List ℕ) : Type 0 where
  pub each : (x : ℕ) → IsIn x xs ↔ IsIn x ys
  pub distinct : IsDistinct xs ↔ IsDistinct ys
  pub long : length xs ≡ length ys

pub numbers_same : (xs : List ℕ) → HasSameNumbers xs xs
numbers_same xs = record { each = λ x. ((λ here. here), (λ here. here)); distinct = ((λ d. d), (λ d. d)); long = refl }

pub numbers_back : (xs ys : List ℕ) → HasSameNumbers xs ys → HasSameNumbers ys xs
numbers_back xs ys same = record { each = λ x. ((same.each x).1, (same.each x).0); distinct = (same.distinct.1, same.distinct.0); long = sym same.long }

pub numbers_then : (xs ys zs : List ℕ) → HasSameNumbers xs ys → HasSameNumbers ys zs → HasSameNumbers xs zs
numbers_then xs ys zs same later = record {
  each = λ x. ((λ here. (later.each x).0 ((same.each x).0 here)), (λ here. (same.each x).1 ((later.each x).1 here)));
  distinct = ((λ d. later.distinct.0 (same.distinct.0 d)), (λ d. same.distinct.1 (later.distinct.1 d)));
  long = same.long ∙ later.long;
}

pub distinct_front : (xs ys : List ℕ) → IsDistinct (xs ++ ys) → IsDistinct xs
distinct_front [] ys d = tt
distinct_front (x ∷ xs) ys d = ((λ among. d.0 (in_front x xs ys among)), distinct_front xs ys d.1)

-- behind the same front
among_behind : (front xs ys : List ℕ) (x : ℕ) → (IsIn x xs → IsIn x ys) → IsIn x (front ++ xs) → IsIn x (front ++ ys)
among_behind front xs ys x same among = elim (in_either x front xs among) [ inl here ↦ in_front x front ys here | inr there ↦ in_back x front ys (same there) ]

distinct_behind : (front xs ys : List ℕ) → (IsDistinct xs → IsDistinct ys) → ((x : ℕ) → IsIn x ys → IsIn x xs) → IsDistinct (front ++ xs) → IsDistinct (front ++ ys)
distinct_behind front xs ys same back d =
    distinct_both front ys (distinct_front front xs d) (same (distinct_rest front xs d)) (λ x here there. distinct_apart front xs d x here (back x there))

pub numbers_behind : (front xs ys : List ℕ) → HasSameNumbers xs ys → HasSameNumbers (front ++ xs) (front ++ ys)
numbers_behind front xs ys same = record {
  each = λ x. (among_behind front xs ys x (same.each x).0, among_behind front ys xs x (same.each x).1);
  distinct = (distinct_behind front xs ys same.distinct.0 (λ x. (same.each x).1), distinct_behind front ys xs same.distinct.1 (λ x. (same.each x).0));
  long = length-append front xs ∙ ap (λ n. length front + n) same.long ∙ sym (length-append front ys);
}

-- two fronts in the other order
among_swapped : (xs ys zs : List ℕ) (x : ℕ) → IsIn x (xs ++ (ys ++ zs)) → IsIn x (ys ++ (xs ++ zs))
among_swapped xs ys zs x among = elim (in_either x xs (ys ++ zs) among) [
  | inl first ↦ in_back x ys (xs ++ zs) (in_front x xs zs first)
  | inr later ↦ elim (in_either x ys zs later) [ inl second ↦ in_front x ys (xs ++ zs) second | inr last ↦ in_back x ys (xs ++ zs) (in_back x xs zs last) ]
]

distinct_swapped : (xs ys zs : List ℕ) → IsDistinct (xs ++ (ys ++ zs)) → IsDistinct (ys ++ (xs ++ zs))
distinct_swapped xs ys zs d =
    let rest = distinct_rest xs (ys ++ zs) d in
    let apart = distinct_apart xs (ys ++ zs) d in
    distinct_both ys (xs ++ zs) (distinct_front ys zs rest)
    (distinct_both xs zs (distinct_front xs (ys ++ zs) d) (distinct_rest ys zs rest) (λ x first last. apart x first (in_back x ys zs last)))
    (λ x second other. elim (in_either x xs zs other) [ inl first ↦ apart x first (in_front x ys zs second) | inr last ↦ distinct_apart ys zs rest x second last ])

long_swapped : (xs ys zs : List ℕ) → length (xs ++ (ys ++ zs)) ≡ length (ys ++ (xs ++ zs))
long_swapped xs ys zs =
    let one = length-append xs (ys ++ zs) in
    let other = length-append ys (xs ++ zs) in
    let last = length-append ys zs in
    let first = length-append xs zs in
    omega (arith, one, other, last, first)

pub numbers_swapped : (xs ys zs : List ℕ) → HasSameNumbers (xs ++ (ys ++ zs)) (ys ++ (xs ++ zs))
numbers_swapped xs ys zs = record {
  each = λ x. (among_swapped xs ys zs x, among_swapped ys xs zs x);
  distinct = (distinct_swapped xs ys zs, distinct_swapped ys xs zs);
  long = long_swapped xs ys zs;
}

-- ---- residues of the same places

-- in whatever order, where no slot points
pub record HasSameLeft (one other : Residue) : Type 0 where
  pub pointer : (one.pointer ≡ None) ↔ (other.pointer ≡ None)
  pub slots : HasSameNumbers one.slots other.slots
  pub pages : HasSameNumbers one.pages other.pages
  pub inodes : HasSameNumbers one.inodes other.inodes
  pub counts : HasSameNumbers one.counts other.counts

pub left_same : (one : Residue) → HasSameLeft one one
left_same one = record {
  pointer = ((λ none. none), (λ none. none));
  slots = numbers_same one.slots;
  pages = numbers_same one.pages;
  inodes = numbers_same one.inodes;
  counts = numbers_same one.counts;
}

pub left_back : (one other : Residue) → HasSameLeft one other → HasSameLeft other one
left_back one other same = record {
  pointer = (same.pointer.1, same.pointer.0);
  slots = numbers_back one.slots other.slots same.slots;
  pages = numbers_back one.pages other.pages same.pages;
  inodes = numbers_back one.inodes other.inodes same.inodes;
  counts = numbers_back one.counts other.counts same.counts;
}

pub left_then : (one other third : Residue) → HasSameLeft one other → HasSameLeft other third → HasSameLeft one third
left_then one other third same later = record {
  pointer = ((λ none. later.pointer.0 (same.pointer.0 none)), (λ none. same.pointer.1 (later.pointer.1 none)));
  slots = numbers_then one.slots other.slots third.slots same.slots later.slots;
  pages = numbers_then one.pages other.pages third.pages same.pages later.pages;
  inodes = numbers_then one.inodes other.inodes third.inodes same.inodes later.inodes;
  counts = numbers_then one.counts other.counts third.counts same.counts later.counts;
}

-- no slot points in two together exactly where none does in either
pub no_pointers : (one other : Option ℕ) → (option_or one other ≡ None) ↔ ((one ≡ None) × (other ≡ None))
no_pointers None other = ((λ none. (refl, none)), (λ none. none.1))
no_pointers (Some s) other = ((λ none. cc), (λ none. none.0))

pub left_behind : (front one other : Residue) → HasSameLeft one other → HasSameLeft (joined front one) (joined front other)
left_behind front one other same =
    let before = no_pointers front.pointer one.pointer in
    let behind = no_pointers front.pointer other.pointer in
    record {
      pointer = (
        (λ none. let (first, rest) = before.0 none in behind.1 (first, same.pointer.0 rest)),
        (λ none. let (first, rest) = behind.0 none in before.1 (first, same.pointer.1 rest)),
      );
      slots = numbers_behind front.slots one.slots other.slots same.slots;
      pages = numbers_behind front.pages one.pages other.pages same.pages;
      inodes = numbers_behind front.inodes one.inodes other.inodes same.inodes;
      counts = numbers_behind front.counts one.counts other.counts same.counts;
    }

swapped_none : (one other third : Option ℕ) → option_or one (option_or other third) ≡ None → option_or other (option_or one third) ≡ None
swapped_none None other third none = none
swapped_none (Some s) other third none = cc

pub left_swapped : (one other third : Residue) → HasSameLeft (joined one (joined other third)) (joined other (joined one third))
left_swapped one other third = record {
  pointer = (swapped_none one.pointer other.pointer third.pointer, swapped_none other.pointer one.pointer third.pointer);
  slots = numbers_swapped one.slots other.slots third.slots;
  pages = numbers_swapped one.pages other.pages third.pages;
  inodes = numbers_swapped one.inodes other.inodes third.inodes;
  counts = numbers_swapped one.counts other.counts third.counts;
}

-- One call is taken to the front,
pub left_moved : (volume : VolumeView) (calls : Calls) (s : ℕ) (call : Call) → call_at calls s ≡ Some call
    → HasSameLeft (left_of_all volume calls) (joined (left_by volume call.running) (left_of_all volume (without calls s)))
left_moved volume [] s call runs = cc
left_moved volume (None ∷ calls) zero call runs = cc
left_moved volume (None ∷ calls) (suc s) call runs = left_moved volume calls s call runs
left_moved volume (Some first ∷ calls) zero call runs =
    let same : first ≡ call = cc in
    subst (λ (other : Call). HasSameLeft (joined (left_by volume first.running) (left_of_all volume calls)) (joined (left_by volume other.running) (left_of_all volume calls))) same
    (left_same (joined (left_by volume first.running) (left_of_all volume calls)))
left_moved volume (Some first ∷ calls) (suc s) call runs =
    let one = left_by volume first.running in
    let other = left_by volume call.running in
    let rest = left_of_all volume (without calls s) in
    left_then (joined one (left_of_all volume calls)) (joined one (joined other rest)) (joined other (joined one rest))
    (left_behind one (left_of_all volume calls) (joined other rest) (left_moved volume calls s call runs)) (left_swapped one other rest)

-- also past what one more has left
pub left_moved_past : (volume : VolumeView) (own : Residue) (calls : Calls) (s : ℕ) (call : Call) → call_at calls s ≡ Some call
    → HasSameLeft (joined own (left_of_all volume calls)) (joined (left_by volume call.running) (joined own (left_of_all volume (without calls s))))
left_moved_past volume own calls s call runs =
    let other = left_by volume call.running in
    let rest = left_of_all volume (without calls s) in
    left_then (joined own (left_of_all volume calls)) (joined own (joined other rest)) (joined other (joined own rest))
    (left_behind own (left_of_all volume calls) (joined other rest) (left_moved volume calls s call runs)) (left_swapped own other rest)

-- ---- what that says

listed_places : (xs ys : List ℕ) → HasSameNumbers xs ys → IsDistinct xs → IsListOf (λ x. IsIn x xs) ys
listed_places xs ys same distinct = record { distinct = same.distinct.0 distinct; each = λ x. ((same.each x).1, (same.each x).0) }

-- Beside which the words are tidy has each place once.
pub same_places : (P : ℕ) (I : List ℕ) (one other : Residue) → HasSameLeft one other → IsTidyBeside P I one → one.pointer ≡ None → HasSamePlaces one other
same_places P I one other same tidy none = record {
  pointer = same.pointer.0 none ∙ sym none;
  slots = listed_places one.slots other.slots same.slots tidy.of_slots.distinct;
  pages = listed_places one.pages other.pages same.pages tidy.of_pages.distinct;
  inodes = listed_places one.inodes other.inodes same.inodes tidy.of_inodes.distinct;
  counts = listed_places one.counts other.counts same.counts tidy.of_counts.distinct;
}

-- as much is free beside them
pub same_supply : (P : ℕ) (one other : Residue) → HasSameLeft one other → supply_beside P one ≡ supply_beside P other
same_supply P one other same =
    ap (λ (n : ℕ). record { pages = P; taken_inodes = n; taken_pages = length one.pages }) same.inodes.long
    ∙ ap (λ (n : ℕ). record { pages = P; taken_inodes = length other.inodes; taken_pages = n }) same.pages.long

-- The entries that the commit of a move leaves: the old name's entry goes, and the new name's comes, or that of a replaced node stays. W are the
-- words at the begin of the move, I those with the pointer, C those that the commit leaves.
use Rattle.std.proofs.Common.{◌≡◌, ◌≢◌, ◌↔◌, ◌⊎◌, inl, inr, ℕ, List, Option, Some, None, refl, sym, ap, subst, ◌∙◌}
use Rattle.std.proofs.lemmas.Bool.{cases_eq}
use Rattle.layout.specs.Fields.{page_owner, slot_inode, slot_name}
use Rattle.layout.proofs.NameLaws.{name_in_words-words_of_name}
use Rattle.tree_model.specs.PathText.{Route}
use Rattle.tree_model.specs.Run.{State}
use Rattle.image_reading.specs.Reading.{slot_owner, IsReachedSlot}
use Rattle.image_counts.specs.Entries.{IsEntryOf, IsPageIn}
use Rattle.image_counts.proofs.Paths.{same_slot}
use Rattle.image_laws.specs.Move.{CanMove, moved}
use Rattle.rename_laws.specs.Target.{name_of}
use Rattle.rename_laws.specs.Ready.{IsMoveReady}
use Rattle.rename_laws.specs.Index.{HasEntryMoved}
use Rattle.rename_laws.proofs.MovedEntries.{moved_entry_law}
use Rattle.rename_laws.proofs.MovedNames as here
use Rattle.moving_laws.specs.Moving.{pointed_left}
use Rattle.volume.specs.Moves.{rising_of}
use Rattle.volume.specs.declared.plan.Loss.{Loss}
use Rattle.volume.specs.declared.plan.Moving.{Moving}
use Rattle.rename_ptr.specs.Steps.{target_by, target_of}
use Rattle.rename_ptr.specs.Renaming.{IsMovingAt}
use Rattle.rename_ptr.proofs.Moves
use Rattle.waiting_laws.proofs.MovingQuiet.{IsQuietSince}
use Rattle.waiting_laws.proofs.MovingBefore as before_it

module _ {P : ℕ} {W : List ℕ} {state : State} (from to : Route) {moving : Moving} (at : IsMovingAt P W state from to moving) (I : List ℕ)
    (ready : IsMoveReady P W I (Moves.from_way from to at) (Moves.to_way from to at) moving.from_slot moving.to_directory moving.to_slot (target_of moving) (rising_of moving))
    (since : IsQuietSince P W I (pointed_left moving.to_slot (target_of moving) (rising_of moving))) where
  abbrev pa : Route
  pa = Moves.from_way from to at

  abbrev pb : Route
  pb = Moves.to_way from to at

  abbrev C : List ℕ
  C = moved P I moving.from_slot moving.to_slot

  can : CanMove P I pa pb moving.from_slot moving.to_slot
  can = ready.can_move

  entry : HasEntryMoved P W C moving.from_slot moving.to_directory moving.to_slot (target_of moving)
  entry = moved_entry_law P W I pa pb moving.from_slot moving.to_directory moving.to_slot (target_of moving) (rising_of moving) ready

  source : IsEntryOf P W moving.from_directory moving.from_name moving.from_slot
  source = (Moves.for_move from to at).source.slot_is

  -- ---- names

  name_by : (replaced : Option Loss) (page : Option ℕ) → moving.replaced ≡ replaced → name_of P W moving.to_slot (target_by moving replaced page) ≡ moving.to_name
  name_by None None is = name_in_words-words_of_name moving.to_name at.is_name at.of_bytes
  name_by None (Some page) is = name_in_words-words_of_name moving.to_name at.is_name at.of_bytes
  name_by (Some loss) page is = (Moves.target_at from to at loss is).0.slot_is.name

  new_name : slot_name P C moving.to_slot ≡ moving.to_name
  new_name = entry.new_name ∙ name_by moving.replaced moving.new_page refl

  -- a slot that takes the number and is reached before has its name
  old_name : IsReachedSlot P W moving.to_slot → slot_name P W moving.to_slot ≡ moving.to_name
  old_name slot = sym (before_it.old_name from to at (target_of moving) (Moves.can_rename from to at).target_slot slot) ∙ name_by moving.replaced moving.new_page refl

  names : (t : ℕ) → IsReachedSlot P W t → t ≢ moving.from_slot → slot_name P C t ≡ slot_name P W t
  names t slot other = elim (cases_eq t moving.to_slot) [
    | inl here ↦
        ap (λ (u : ℕ). slot_name P C u) here ∙ new_name
        ∙ sym (old_name (subst (λ (u : ℕ). IsReachedSlot P W u) here slot)) ∙ ap (λ (u : ℕ). slot_name P W u) (sym here)
    | inr away ↦ entry.names t slot other away
  ]

  -- ---- entries, by those at the begin

  abbrev IsMovedEntry : ℕ → List ℕ → ℕ → Type 0
  IsMovedEntry x bytes t = (x ≡ moving.to_directory) × (bytes ≡ moving.to_name) × (t ≡ moving.to_slot)

  entry_after : (x t : ℕ) (bytes : List ℕ) → IsEntryOf P W x bytes t → t ≢ moving.from_slot → IsEntryOf P C x bytes t
  entry_after x t bytes is other =
      let still = (entry.entries x t).1 (inl ((is.slot, is.owner), other)) in
      record { slot = still.0; owner = still.1; name = names t is.slot other ∙ is.name }

  entry_before : (x t : ℕ) (bytes : List ℕ) → IsEntryOf P C x bytes t → (IsEntryOf P W x bytes t × (t ≢ moving.from_slot)) ⊎ IsMovedEntry x bytes t
  entry_before x t bytes is = elim ((entry.entries x t).0 (is.slot, is.owner)) [
    | inl (was, other) ↦ inl (record { slot = was.0; owner = was.1; name = sym (names t was.0 other) ∙ is.name }, other)
    | inr (here, slot) ↦ inr (here, sym is.name ∙ ap (λ (u : ℕ). slot_name P C u) slot ∙ new_name, slot)
  ]

  -- the name that leaves stands in one slot
  one_slot : (t : ℕ) → IsEntryOf P W moving.from_directory moving.from_name t → t ≡ moving.from_slot
  one_slot t is = same_slot P W (Moves.coherent from to at) t moving.from_slot is.slot source.slot (is.owner ∙ sym source.owner) (is.name ∙ sym source.name)

  other_slot : (x t : ℕ) (bytes : List ℕ) → IsEntryOf P W x bytes t → (x ≡ moving.from_directory → bytes ≢ moving.from_name) → t ≢ moving.from_slot
  other_slot x t bytes is other same =
      other (sym is.owner ∙ ap (λ (u : ℕ). slot_owner P W u) same ∙ source.owner) (sym is.name ∙ ap (λ (u : ℕ). slot_name P W u) same ∙ source.name)

  other_name : (x t : ℕ) (bytes : List ℕ) → IsEntryOf P W x bytes t → t ≢ moving.from_slot → x ≡ moving.from_directory → bytes ≢ moving.from_name
  other_name x t bytes is other here same =
      other (one_slot t (subst (λ (y : ℕ). IsEntryOf P W y moving.from_name t) here (subst (λ (name : List ℕ). IsEntryOf P W x name t) same is)))

  -- the entry of a replaced node was there
  replaced_entry : (loss : Loss) → moving.replaced ≡ Some loss → (x t : ℕ) (bytes : List ℕ) → IsMovedEntry x bytes t → IsEntryOf P W x bytes t × (t ≢ moving.from_slot)
  replaced_entry loss is x t bytes (here, name, slot) =
      let target = Moves.target_at from to at loss is in (
        subst (λ (y : ℕ). IsEntryOf P W y bytes t) (sym here) (subst (λ (b : List ℕ). IsEntryOf P W moving.to_directory b t) (sym name)
            (subst (λ (u : ℕ). IsEntryOf P W moving.to_directory moving.to_name u) (sym slot) target.0.slot_is)),
        (λ same. Moves.other_inode from to at loss target (sym (Moves.target_inode from to at loss target) ∙ ap (λ (u : ℕ). slot_inode P W u) (sym slot ∙ same))),
      )

  -- ---- and by those before the commit

  abbrev IsOtherName : ℕ → List ℕ → ℕ → Type 0
  IsOtherName x bytes t = IsEntryOf P I x bytes t × (x ≡ moving.from_directory → bytes ≢ moving.from_name)

  other_stays : (x t : ℕ) (bytes : List ℕ) → IsOtherName x bytes t → IsEntryOf P C x bytes t
  other_stays x t bytes (is, other) = let was = (since.entries x t bytes).1 is in entry_after x t bytes was (other_slot x t bytes was other)

  other_was : (x t : ℕ) (bytes : List ℕ) → IsEntryOf P W x bytes t → t ≢ moving.from_slot → IsOtherName x bytes t
  other_was x t bytes was other = ((since.entries x t bytes).0 was, other_name x t bytes was other)

  -- where the name is new, it comes
  pub entry_comes : (x t : ℕ) (bytes : List ℕ) → (IsOtherName x bytes t ⊎ IsMovedEntry x bytes t) ↔ IsEntryOf P C x bytes t
  entry_comes x t bytes = (
    (λ either. elim either [
      | inl other ↦ other_stays x t bytes other
      | inr (here, name, slot) ↦ (let there = (entry.entries x t).1 (inr (here, slot)) in record { slot = there.0; owner = there.1; name = ap (λ (u : ℕ). slot_name P C u) slot ∙ new_name ∙ sym name })
    ]),
    (λ is. elim (entry_before x t bytes is) [ inl (was, other) ↦ inl (other_was x t bytes was other) | inr comes ↦ inr comes ]),
  )

  -- where a node is replaced, its entry stays
  pub entry_stays_over : (loss : Loss) → moving.replaced ≡ Some loss → (x t : ℕ) (bytes : List ℕ) → IsEntryOf P C x bytes t ↔ IsOtherName x bytes t
  entry_stays_over loss is x t bytes = (
    (λ e. elim (entry_before x t bytes e) [
      | inl (was, other) ↦ other_was x t bytes was other
      | inr comes ↦ (let (was, other) = replaced_entry loss is x t bytes comes in other_was x t bytes was other)
    ]),
    other_stays x t bytes,
  )

  -- ---- the new page

  -- it is the directory's once the name is there, and had no owner at the begin
  pub new_page_owned : moving.replaced ≡ None → (j : ℕ) → moving.new_page ≡ Some j → IsPageIn P C moving.to_directory j
  unfolding slot_owner
  new_page_owned none j is =
      let place = Moves.place_at from to at none (Some j) is in
      let page = Moves.page_here from to at j place in
      record {
        in_range = place.page_is.free.0;
        owner = (here.only P I pa pb moving.from_slot moving.to_slot can).owner j place.page_is.free.0 ∙ ap (λ (k : ℕ). page_owner P I k) (sym page) ∙ ready.owner;
      }

  pub new_page_free : moving.replaced ≡ None → (j : ℕ) → moving.new_page ≡ Some j → page_owner P W j ≡ 0
  new_page_free none j is = (Moves.place_at from to at none (Some j) is).page_is.free.1.0

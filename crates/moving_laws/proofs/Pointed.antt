-- Slot d points at slot s and has no number of it yet: the pointer, the slot or its new page, and the links that have risen are to be
-- repaired, and nothing else is.
use Rattle.std.proofs.Common.{◌≡◌, ◌≢◌, ◌↔◌, ◌⊎◌, inl, inr, ℕ, List, [], Option, Some, None, refl, sym, ap, subst, ◌∙◌, arith}
use Rattle.std.proofs.lemmas.Bool.{cases_eq}
use Rattle.layout.specs.Fields.{word, inode_kind, page_owner, page_kind, slot_inode, slot_pointer}
use Rattle.layout.specs.Geometry.{page_of_slot, slot_word_of}
use Rattle.layout.proofs.GeometryLaws.{page_of_slot_below}
use Rattle.layout.proofs.Widths.{descriptor_field_read}
use Rattle.tree_model.specs.PathText.{Route}
use Rattle.image_reading.specs.Counts.{IsIn, IsListOf}
use Rattle.image_reading.specs.Reading.{slot_owner, IsLive, Reached, IsChildOf, IsRoomOf}
use Rattle.image_reading.specs.Repairs.{IsPointer, IsLitterSlot, IsLitterPage, IsLitterInode, IsLitterCount}
use Rattle.image_reading.specs.Soundness.{Rule}
use Rattle.image_reading.proofs.Counts.{count_one}
use Rattle.image_laws.specs.Move.{CanMove}
use Rattle.image_laws.proofs.Ready.{held_room}
use Rattle.rename_laws.specs.Target.{Target, Vacant, Opened, Taken, CanTake, Holds, IsRising, old_number}
use Rattle.rename_laws.specs.Ready.{IsMoveReady}
use Rattle.rename_laws.proofs.MovedCounts.{IsRaised, IsAlmostTidy}
use Rattle.rename_laws.proofs.MoveNear as before
use Rattle.rename_laws.proofs.MoveNear.{IsOpenedPage}
use Rattle.weave_laws.specs.Naming.{pages_left}
use Rattle.weave_laws.specs.Removing.{falling_left}
use Rattle.moving_laws.specs.Moving.{waiting_slots, new_page, PointedLaw}
use Rattle.moving_laws.proofs.Lists.{list_none, list_one, same_some}

module _ (P : ℕ) (W I : List ℕ) (pa pb : Route) (s x d : ℕ) (target : Target) (rising : Option ℕ) (ready : IsMoveReady P W I pa pb s x d target rising) where
  c : CanMove P I pa pb s d
  c = ready.can_move

  near : IsAlmostTidy P I s d
  near = before.near P W I pa pb s x d target rising ready

  -- ---- the pointer

  d_pointer : IsPointer P I d
  d_pointer = record { held = c.held; nonzero = λ z. (let at = c.pointer in omega (arith, at, z)) }

  only_pointer : (t : ℕ) → IsPointer P I t → t ≡ d
  only_pointer t l = elim (cases_eq t d) [ inl e ↦ e | inr ne ↦ absurd (l.nonzero (c.alone t l.held ne)) ]

  pub of_pointer : (t : ℕ) → (Some d ≡ Some t) ↔ IsPointer P I t
  of_pointer t = ((λ e. subst (IsPointer P I) (same_some d t e) d_pointer), (λ l. ap Some (sym (only_pointer t l))))

  -- ---- the slot, by where it stands

  only_slot : (t : ℕ) → IsLitterSlot P I t → t ≡ d
  only_slot t l = elim (cases_eq t d) [
    | inl e ↦ e
    | inr ne ↦ (let (f, lt, nonzero) = l.nonzero in absurd (nonzero (near.slots t f ne (inl l.page) l.dead lt)))
  ]

  owner_here : page_owner P I (page_of_slot d) ≡ x
  unfolding slot_owner
  owner_here = ready.owner

  -- its page is kept where it was before
  room_here : IsRoomOf P W x (page_of_slot d) → IsRoomOf P I (page_owner P I (page_of_slot d)) (page_of_slot d)
  room_here room = subst (λ y. IsRoomOf P I y (page_of_slot d)) (sym owner_here) (before.room_forth P W I pa pb s x d target rising ready x (page_of_slot d) room)

  Kept : Type 0
  Kept = IsRoomOf P I (page_owner P I (page_of_slot d)) (page_of_slot d)

  pointer_word : word I (slot_word_of P d 1) ≢ 0
  unfolding slot_pointer
  pointer_word z = let at = c.pointer in omega (arith, at, z)

  vacant_slot : Kept → slot_inode P I d ≡ 0 → IsLitterSlot P I d
  unfolding Kept
  vacant_slot room zero = record { page = room; dead = λ live. live.names zero; nonzero = (1, omega arith, pointer_word) }

  vacant_kept : (now : Target) → CanTake P W pb s x d now → old_number now ≡ 0 → (IsOpenedPage now (page_of_slot d) → ⊥) → Kept
  unfolding Kept
  vacant_kept (Vacant name) take zero old = room_here (held_room P W x d ready.can.tidy (pb, ready.can.target_path) ready.can.target_directory take.1.held take.1.owner)
  vacant_kept (Opened page name) take zero old = absurd (old take.2)
  vacant_kept (Taken r) take zero old = absurd (take.entry.0.live.names (take.number ∙ zero))

  taken_kept : (r : ℕ) → CanTake P W pb s x d (Taken r) → Kept
  unfolding Kept
  taken_kept r take = room_here (record { reached = (pb, ready.can.target_path); directory = ready.can.target_directory; slot = (d, refl, take.entry.1, take.entry.0.live) })

  -- in a new page no slot is live
  unkept : IsOpenedPage target (page_of_slot d) → Kept → ⊥
  unfolding Kept
  unkept opened room = let (t, at, owner, live) = room.slot in before.live_old P W I pa pb s x d target rising ready t live (subst (IsOpenedPage target) (sym at) opened)

  slots_by : (now : Target) → CanTake P W pb s x d now → slot_inode P I d ≡ old_number now → (IsOpenedPage now (page_of_slot d) → IsOpenedPage target (page_of_slot d))
      → IsListOf (IsLitterSlot P I) (waiting_slots d now)
  unfolding Kept
  slots_by (Vacant name) take number same = list_one (IsLitterSlot P I) d (vacant_slot (vacant_kept (Vacant name) take refl (λ none. none)) number) only_slot
  slots_by (Opened page name) take number same = list_none (IsLitterSlot P I) (λ t l. unkept (same take.2) (subst (λ u. IsRoomOf P I (page_owner P I (page_of_slot u)) (page_of_slot u)) (only_slot t l) l.page))
  slots_by (Taken r) take number same = list_none (IsLitterSlot P I) (λ t l. l.dead (subst (IsLive P I) (sym (only_slot t l)) (before.live_forth P W I pa pb s x d target rising ready d take.entry.0.live)))

  pub of_slots : IsListOf (IsLitterSlot P I) (waiting_slots d target)
  of_slots = slots_by target ready.can.target_slot ready.number (λ h. h)

  -- ---- its page

  kept_page : Kept → (j : ℕ) → ¬ IsLitterPage P I j
  unfolding Kept
  kept_page room j l = l.free (inr (subst (λ k. IsRoomOf P I (page_owner P I k) k) (sym (near.pages j l)) room))

  owned_here : page_owner P I (page_of_slot d) ≢ 0
  unfolding slot_owner
  owned_here = c.held.owned

  new_page_left : IsOpenedPage target (page_of_slot d) → IsLitterPage P I (page_of_slot d)
  unfolding page_owner Kept
  new_page_left opened = record {
    in_range = page_of_slot_below P d c.held.in_range;
    free = λ kept. elim kept [
      | inl file ↦
          let two = ap (inode_kind I) owner_here ∙ sym (ap (inode_kind I) ready.owner) ∙ c.target_directory in
          let one = file.file in
          omega (arith, one, two)
      | inr room ↦ unkept opened room
    ];
    nonzero = (0, descriptor_field_read I 0 (omega arith), owned_here);
  }

  pages_by : (now : Target) → CanTake P W pb s x d now → (IsOpenedPage now (page_of_slot d) → IsOpenedPage target (page_of_slot d)) → IsListOf (IsLitterPage P I) (pages_left (new_page now))
  pages_by (Vacant name) take same = list_none (IsLitterPage P I) (kept_page (vacant_kept (Vacant name) take refl (λ none. none)))
  pages_by (Opened page name) take same = list_one (IsLitterPage P I) page (subst (IsLitterPage P I) take.2 (new_page_left (same take.2))) (λ j l. near.pages j l ∙ take.2)
  pages_by (Taken r) take same = list_none (IsLitterPage P I) (kept_page (taken_kept r take))

  pub of_pages : IsListOf (IsLitterPage P I) (pages_left (new_page target))
  of_pages = pages_by target ready.can.target_slot (λ h. h)

  pub marks : (j : ℕ) → IsIn j (pages_left (new_page target)) → (page_owner P I j ≢ 0) ⊎ (page_kind P I j ≢ 0)
  marks j among = inl (subst (λ k. page_owner P I k ≢ 0) (sym (near.pages j ((of_pages.each j).0 among))) owned_here)

  -- ---- the links that have risen

  counted : (y : ℕ) → IsLitterCount P I y → IsRaised P I s d y
  counted y l = elim ((c.coherent Rule.kinds y).kind l.reached) [
    | inl one ↦ absurd (l.other (record {
      file = λ _. near.names y l.reached one;
      directory = λ two. absurd (omega (arith, one, two));
    }))
    | inr two ↦
        let (m, children, links) = near.children y l.reached two in
        elim links [
          | inl risen ↦ risen.0
          | inr same ↦ absurd (l.other (record {
            file = λ one. absurd (omega (arith, one, two));
            directory = λ _. (m, children, same.1);
          }))
        ]
  ]

  raised_left : (y : ℕ) → IsRaised P I s d y → IsLitterCount P I y
  raised_left y rises =
      let reached : Reached P I y = subst (Reached P I) (sym rises.here) (pb, c.target_path) in
      let two = ap (inode_kind I) rises.here ∙ c.target_directory in
      record {
        reached = reached;
        other = λ count.
            let (m, children, is) = count.directory two in
            let (k, all, links) = near.children y reached two in
            elim links [
              | inl risen ↦
                  let same = count_one (IsChildOf P I y) m k children all in
                  let more = risen.1 in
                  omega (arith, same, more, is)
              | inr never ↦ never.0 rises
            ];
      }

  counts_by : (r : Option ℕ) → Holds (IsRising P W s x target) r → IsListOf (IsLitterCount P I) (falling_left r)
  counts_by None holds = list_none (IsLitterCount P I) (λ y l. holds y ((before.raised P W I pa pb s x d target rising ready y).1 (counted y l)))
  counts_by (Some z) holds =
      let risen = (before.raised P W I pa pb s x d target rising ready z).0 holds in
      list_one (IsLitterCount P I) z (raised_left z risen) (λ y l. (counted y l).here ∙ sym risen.here)

  pub of_counts : IsListOf (IsLitterCount P I) (falling_left rising)
  of_counts = counts_by rising ready.rises

  pub of_inodes : IsListOf (IsLitterInode P I) []
  of_inodes = list_none (IsLitterInode P I) near.inodes

pub pointed_law : PointedLaw
pointed_law P W I pa pb s x d target rising ready = record {
  of_pointer = of_pointer P W I pa pb s x d target rising ready;
  of_slots = of_slots P W I pa pb s x d target rising ready;
  of_pages = of_pages P W I pa pb s x d target rising ready;
  of_inodes = of_inodes P W I pa pb s x d target rising ready;
  of_counts = of_counts P W I pa pb s x d target rising ready;
  kinds = λ y none. absurd none;
  marks = marks P W I pa pb s x d target rising ready;
}

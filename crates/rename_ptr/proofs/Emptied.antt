-- Whether the page of a move's source keeps a name, in words Y that have the entries of W with the name in its new place.
use Rattle.std.proofs.Common.{◌≡◌, ◌≢◌, inl, inr, ℕ, ◌<◌, List, refl, sym, ap, subst, ◌∙◌}
use Rattle.std.proofs.lemmas.Bool.{cases_eq}
use Rattle.layout.specs.Geometry.{data_pages_of, page_of_slot}
use Rattle.layout.proofs.GeometryLaws.{page_of_slot_below, slot_below}
use Rattle.layout.specs.Fields.{inode_kind, page_owner, slot_inode}
use Rattle.tree_model.specs.PathText.{Route}
use Rattle.tree_model.specs.Run.{State}
use Rattle.image_reading.specs.Reading.{slot_owner, Reached, IsReachedSlot, IsRoomOf}
use Rattle.image_reading.proofs.Tidied.{tidied}
use Rattle.image_counts.proofs.Tidied.{room_law}
use Rattle.rename_laws.specs.Index.{HasEntryMoved}
use Rattle.rename_laws.specs.Ready.{IsMoveReady}
use Rattle.rename_laws.proofs.MoveNear as near
use Rattle.volume.specs.Moves.{rising_of}
use Rattle.volume.specs.Planned.{IsEmptiedBy}
use Rattle.volume.specs.declared.plan.Moving.{Moving}
use Rattle.rename_ptr.specs.Steps.{target_of}
use Rattle.rename_ptr.specs.Renaming.{IsMovingAt}
use Rattle.rename_ptr.proofs.Moves

module _ {P : ℕ} {W : List ℕ} {state : State} (from to : Route) {moving : Moving} (at : IsMovingAt P W state from to moving) (I : List ℕ)
    (ready : IsMoveReady P W I (Moves.from_way from to at) (Moves.to_way from to at) moving.from_slot moving.to_directory moving.to_slot (target_of moving) (rising_of moving))
    (Y : List ℕ) (moved : HasEntryMoved P W Y moving.from_slot moving.to_directory moving.to_slot (target_of moving)) where
  abbrev pub KeepsName : Type 0
  KeepsName = IsRoomOf P Y (slot_owner P W moving.from_slot) (page_of_slot moving.from_slot)

  kept_by : (t : ℕ) → IsReachedSlot P Y t → page_of_slot t ≡ page_of_slot moving.from_slot → slot_owner P Y t ≡ slot_owner P W moving.from_slot → KeepsName
  kept_by t slot page owner = record { reached = subst (Reached P Y) owner slot.owner; directory = ap (inode_kind Y) (sym owner) ∙ slot.directory; slot = (t, page, owner, slot.live) }

  -- a name of it stood there before, beside the source, or is the new one
  pub emptied_none : IsEmptiedBy P W moving → KeepsName → ⊥
  emptied_none (alone, other_page) room =
      let (t, page, owner, live) = room.slot in
      let reached : IsReachedSlot P Y t = record { owner = subst (Reached P Y) (sym owner) room.reached; directory = ap (inode_kind Y) owner ∙ room.directory; live = live } in
      elim ((moved.entries (slot_owner P W moving.from_slot) t).0 (reached, owner)) [
        | inl (old, other) ↦ old.0.live.names (alone t page other)
        | inr (owned, taken) ↦ other_page (ap page_of_slot (sym taken) ∙ page)
      ]

  other_kept : (t : ℕ) → page_of_slot t ≡ page_of_slot moving.from_slot → t ≢ moving.from_slot → slot_inode P W t ≢ 0 → KeepsName
  unfolding slot_owner
  other_kept t page other some =
      let slot = ready.can.source in
      let low = page_of_slot_below P moving.from_slot slot.live.held.in_range in
      let inside = slot_below P t (subst (λ (j : ℕ). j < data_pages_of P) (sym page) low) in
      let owner : slot_owner P W t ≡ slot_owner P W moving.from_slot = ap (page_owner P W) page in
      let reached = ((room_law P W state (tidied at.tidy) at.reads (slot_owner P W moving.from_slot) slot.owner slot.directory).live t (record { in_range = inside; owner = owner })).1 some in
      let (still, owned) = (moved.entries (slot_owner P W moving.from_slot) t).1 (inl ((reached, owner), other)) in
      kept_by t still page owned

  new_kept : page_of_slot moving.to_slot ≡ page_of_slot moving.from_slot → KeepsName
  unfolding slot_owner
  new_kept page =
      let (still, owned) = (moved.entries moving.to_directory moving.to_slot).1 (inr (refl, refl)) in
      let source : slot_owner P I moving.from_slot ≡ slot_owner P W moving.from_slot
      = near.source_owner P W I (Moves.from_way from to at) (Moves.to_way from to at) moving.from_slot moving.to_directory moving.to_slot (target_of moving) (rising_of moving) ready in
      kept_by moving.to_slot still page (owned ∙ sym ready.owner ∙ ap (page_owner P I) page ∙ source)

  -- where none is left, the plan's test holds
  pub emptied : (KeepsName → ⊥) → IsEmptiedBy P W moving
  emptied none = (
    (λ t page other. elim (cases_eq (slot_inode P W t) 0) [ inl zero ↦ zero | inr some ↦ absurd (none (other_kept t page other some)) ]),
    (λ page. none (new_kept page)),
  )

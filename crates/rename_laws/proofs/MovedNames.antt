-- What is reached once a slot took the inode number of another, and which slots are live then.
use Rattle.std.proofs.Common.{◌≡◌, ◌≢◌, ◌⊎◌, ℕ, ◌<◌, List, ◌∷◌, sym, ap, subst, ◌∙◌}
use Rattle.layout.specs.Fields.{inode_kind, slot_inode, slot_name}
use Rattle.layout.specs.Geometry.{slots_of, page_of_slot}
use Rattle.tree_model.specs.PathText.{Route}
use Rattle.image_reading.specs.Reading.{slot_owner, IsHeld, IsLive, Reached, IsReachedSlot, IsRoomOf}
use Rattle.image_reading.specs.Soundness.{Rule}
use Rattle.image_laws.specs.Move.{CanMove, HasMoved, moved}
use Rattle.image_laws.proofs.MoveRoom as rooms
use Rattle.image_laws.proofs.MoveSlot as slots
use Rattle.image_laws.proofs.OnlySlot as only_slot
use Rattle.image_laws.proofs.OnlySlot.{OnlySlot, GetsNumber}
use Rattle.image_laws.proofs.Paths.{reach}
use Rattle.image_laws.proofs.Removes.{moves, move_law}

module _ (P : ℕ) (I : List ℕ) (pa pb : Route) (s d : ℕ) (c : CanMove P I pa pb s d) where
  pub as_move : GetsNumber P I (moved P I s d) d (slot_inode P I s)
  as_move = moves P I pa pb s d c

  pub after : HasMoved P I (moved P I s d) (slot_name P I s ∷ pa) (slot_name P I d ∷ pb)
  after = move_law P I pa pb s d c

  pub only : OnlySlot P I (moved P I s d) d
  only = as_move.only

  pub apart : s ≢ d
  apart = slots.apart P I (moved P I s d) pa pb s d c as_move

  pub number_new : slot_inode P (moved P I s d) d ≡ slot_inode P I s
  number_new = as_move.number

  pub held_forward : (t : ℕ) → IsHeld P I t → IsHeld P (moved P I s d) t
  held_forward = only_slot.held_forward only

  pub held_back : (t : ℕ) → IsHeld P (moved P I s d) t → IsHeld P I t
  held_back = only_slot.held_back only

  pub owner_same : (t : ℕ) → t < slots_of P → slot_owner P (moved P I s d) t ≡ slot_owner P I t
  owner_same = only_slot.same_owner only

  pub kind_same : (x : ℕ) → Reached P I x → inode_kind (moved P I s d) x ≡ inode_kind I x
  kind_same = only_slot.kind_reached only c.coherent

  pub source_slot : IsReachedSlot P I s
  source_slot = slots.source_slot P I (moved P I s d) pa pb s d c as_move

  pub source_reached : Reached P I (slot_inode P I s)
  source_reached = reach P I s source_slot ((c.coherent Rule.inodes s).most source_slot)

  -- what the slot named before is another inode
  pub other_node : slot_inode P I d ≢ slot_inode P I s
  other_node = c.source.stays d c.held c.pointer

  pub replaced_live : slot_inode P I d ≢ 0 → IsLive P I d
  replaced_live = rooms.replaced_live P I (moved P I s d) pa pb s d c as_move after

  pub replaced_slot : slot_inode P I d ≢ 0 → IsReachedSlot P I d
  replaced_slot some = record { owner = (pb, c.target_path); directory = c.target_directory; live = replaced_live some }

  pub replaced_reached : slot_inode P I d ≢ 0 → Reached P I (slot_inode P I d)
  replaced_reached some = let r = replaced_slot some in reach P I d r ((c.coherent Rule.inodes d).most r)

  -- it holds no live slot
  pub no_owner : (t : ℕ) → IsReachedSlot P I t → slot_owner P I t ≢ slot_inode P I d
  no_owner t r = rooms.no_owner P I (moved P I s d) pa pb s d c as_move after t r.live r.owner r.directory

  pub source_number : slot_inode P (moved P I s d) s ≡ slot_inode P I s
  source_number = only.inode s apart

  -- ---- what is reached

  pub reached_back : (x : ℕ) → Reached P (moved P I s d) x → Reached P I x
  reached_back = slots.reached_back P I (moved P I s d) pa pb s d c as_move

  -- all but the replaced
  pub reached_forward : (x : ℕ) → x ≢ slot_inode P I d → Reached P I x → Reached P (moved P I s d) x
  reached_forward = rooms.reached_forward P I (moved P I s d) pa pb s d c as_move after

  pub target_reached : Reached P (moved P I s d) (slot_owner P I d)
  target_reached = rooms.target_reached P I (moved P I s d) pa pb s d c as_move after

  pub source_owner_reached : Reached P (moved P I s d) (slot_owner P I s)
  source_owner_reached = reached_forward (slot_owner P I s) (no_owner s source_slot) (pa, c.source_path)

  -- ---- reached slots

  pub slot_new : IsReachedSlot P (moved P I s d) d
  slot_new = let o = owner_same d c.held.in_range in record {
    owner = subst (Reached P (moved P I s d)) (sym o) target_reached;
    directory = ap (inode_kind (moved P I s d)) o ∙ kind_same (slot_owner P I d) (pb, c.target_path) ∙ c.target_directory;
    live = slots.live_new P I (moved P I s d) pa pb s d c as_move;
  }

  pub slot_forward : (t : ℕ) → t ≢ s → t ≢ d → IsReachedSlot P I t → IsReachedSlot P (moved P I s d) t
  slot_forward t ns nd r = let o = owner_same t r.live.held.in_range in record {
    owner = subst (Reached P (moved P I s d)) (sym o) (reached_forward (slot_owner P I t) (no_owner t r) r.owner);
    directory = ap (inode_kind (moved P I s d)) o ∙ kind_same (slot_owner P I t) r.owner ∙ r.directory;
    live = slots.live_forward P I (moved P I s d) pa pb s d c as_move t ns nd r.live;
  }

  pub not_source : (t : ℕ) → IsReachedSlot P (moved P I s d) t → t ≢ s
  not_source t r = slots.not_source P I (moved P I s d) pa pb s d c as_move t r.live

  -- a reached slot is the new one, or an old one but the source
  pub slot_back : (t : ℕ) → t ≢ d → IsReachedSlot P (moved P I s d) t → IsReachedSlot P I t
  slot_back t nd r =
      let o = owner_same t r.live.held.in_range in
      let owner : Reached P I (slot_owner P I t) = subst (Reached P I) o (reached_back (slot_owner P (moved P I s d) t) r.owner) in
      record {
        owner = owner;
        live = slots.live_back P I (moved P I s d) pa pb s d c as_move t nd r.live;
        directory = sym (kind_same (slot_owner P I t) owner) ∙ ap (inode_kind (moved P I s d)) (sym o) ∙ r.directory;
      }

  -- ---- pages with a live slot

  pub room_new : IsRoomOf P (moved P I s d) (slot_owner P I d) (page_of_slot d)
  room_new = rooms.room_new P I (moved P I s d) pa pb s d c as_move after

  pub room_from : (X : List ℕ) (x j t : ℕ) → IsReachedSlot P X t → page_of_slot t ≡ j → slot_owner P X t ≡ x → IsRoomOf P X x j
  room_from X x j t r at o =
      record { reached = subst (Reached P X) o r.owner; directory = ap (inode_kind X) (sym o) ∙ r.directory; slot = (t, at, o, r.live) }

  pub room_back : (x j : ℕ) → IsRoomOf P (moved P I s d) x j → ((x ≡ slot_owner P I d) × (j ≡ page_of_slot d)) ⊎ IsRoomOf P I x j
  room_back = rooms.room_back P I (moved P I s d) pa pb s d c as_move after

  -- all rooms but that of the source stay
  pub room_cases : (x j : ℕ) → IsRoomOf P I x j → ((x ≡ slot_owner P I s) × (j ≡ page_of_slot s)) ⊎ IsRoomOf P (moved P I s d) x j
  room_cases = rooms.room_cases P I (moved P I s d) pa pb s d c as_move after

  pub room_old : IsRoomOf P I (slot_owner P I s) (page_of_slot s)
  room_old = rooms.room_old P I (moved P I s d) pa pb s d c as_move after

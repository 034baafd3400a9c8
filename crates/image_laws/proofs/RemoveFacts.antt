-- What is reached after a slot gave up its inode number.
use Rattle.std.proofs.Common.{◌≡◌, ◌≢◌, ◌⊎◌, inl, inr, ℕ, List, ◌∷◌, refl, sym, ap, subst, ◌∙◌, set}
use Rattle.std.proofs.lemmas.Bool.{cases_eq}
use Rattle.layout.specs.Fields.{inode_kind, slot_inode, slot_name}
use Rattle.layout.specs.Geometry.{page_of_slot, slot_word_of}
use Rattle.tree_model.specs.PathText.{Route}
use Rattle.image_reading.specs.Reading.{IsDirectory, slot_owner, Names, Reached, IsReachedSlot, IsRoomOf}
use Rattle.image_reading.specs.Soundness.{Rule}
use Rattle.image_counts.proofs.Paths.{one_path}
use Rattle.image_laws.specs.Remove.{CanRemove}
use Rattle.image_laws.proofs.OnlySlot.{same_owner, kind_reached}
use Rattle.image_laws.proofs.Paths.{reach}
use Rattle.image_laws.proofs.Removes.{removes, remove_law}
use Rattle.image_laws.proofs.RemoveSlot as removed

module _ (P : ℕ) (I : List ℕ) (p : Route) (s : ℕ) (c : CanRemove P I p s) where
  pub old_slot : IsReachedSlot P I s
  old_slot = record { owner = (p, c.path); directory = c.directory; live = c.live }

  pub i_reached : Reached P I (slot_inode P I s)
  i_reached = reach P I s old_slot ((c.coherent Rule.inodes s).most old_slot)

  pub reached_back : (x : ℕ) → Reached P (set I (slot_word_of P s 0) 0) x → Reached P I x
  reached_back x r = removed.reached_back P I (set I (slot_word_of P s 0) 0) p s c (removes P I p s c) x r

  pub reached_forward : (x : ℕ) → x ≢ slot_inode P I s → Reached P I x → Reached P (set I (slot_word_of P s 0) 0) x
  reached_forward x ne (q, b) = elim (removed.names_cases P I (set I (slot_word_of P s 0) 0) p s c (removes P I p s c) q x b) [
    | inl old ↦ (q, old)
    | inr gone ↦ absurd (ne gone.1)
  ]

  pub kind_same : (x : ℕ) → Reached P I x → inode_kind (set I (slot_word_of P s 0) 0) x ≡ inode_kind I x
  kind_same x r = kind_reached (removes P I p s c).only c.coherent x r

  -- a directory that goes is gone
  pub directory_gone : IsDirectory I (slot_inode P I s) → Reached P (set I (slot_word_of P s 0) 0) (slot_inode P I s) → ⊥
  directory_gone two (q, b) =
      let (old, other) = ((remove_law P I p s c).names q (slot_inode P I s)).0 b in
      let here : Names P I (slot_name P I s ∷ p) (slot_inode P I s) =
      (s, c.path, record { directory = c.directory; live = c.live; name = refl; inode = refl; in_range = (c.coherent Rule.inodes s).most old_slot }) in
      other (one_path P I c.coherent q (slot_name P I s ∷ p) (slot_inode P I s) two old here)

  -- an owner of a live slot isn't the inode
  owner_other : (t : ℕ) → IsReachedSlot P I t → slot_owner P I t ≢ slot_inode P I s
  owner_other t r e = c.leaf (ap (inode_kind I) (sym e) ∙ r.directory) t r.live e

  pub d_reached : Reached P (set I (slot_word_of P s 0) 0) (slot_owner P I s)
  d_reached = reached_forward (slot_owner P I s) (owner_other s old_slot) (p, c.path)

  pub owner_same : (t : ℕ) → IsReachedSlot P I t → slot_owner P (set I (slot_word_of P s 0) 0) t ≡ slot_owner P I t
  owner_same t r = same_owner (removes P I p s c).only t r.live.held.in_range

  pub slot_forward : (t : ℕ) → t ≢ s → IsReachedSlot P I t → IsReachedSlot P (set I (slot_word_of P s 0) 0) t
  slot_forward t ne r =
      let o = owner_same t r in
      record {
        owner = subst (Reached P (set I (slot_word_of P s 0) 0)) (sym o) (reached_forward (slot_owner P I t) (owner_other t r) r.owner);
        directory = ap (inode_kind (set I (slot_word_of P s 0) 0)) o ∙ kind_same (slot_owner P I t) r.owner ∙ r.directory;
        live = removed.live_forward P I (set I (slot_word_of P s 0) 0) p s c (removes P I p s c) t ne r.live;
      }

  pub slot_back : (t : ℕ) → IsReachedSlot P (set I (slot_word_of P s 0) 0) t → IsReachedSlot P I t × (t ≢ s)
  slot_back t r = (
    (removed.slot_back P I (set I (slot_word_of P s 0) 0) p s c (removes P I p s c) t r).reached,
    removed.other P I (set I (slot_word_of P s 0) 0) p s c (removes P I p s c) t r.live,
  )

  slot_of_room : (X : List ℕ) (x j : ℕ) → IsRoomOf P X x j → (t : ℕ) × IsReachedSlot P X t × (page_of_slot t ≡ j) × (slot_owner P X t ≡ x)
  slot_of_room X x j room =
      let (t, at, o, l) = room.slot in
      (t, record { owner = subst (Reached P X) (sym o) room.reached; directory = ap (inode_kind X) o ∙ room.directory; live = l }, at, o)

  room_from : (X : List ℕ) (x j t : ℕ) → IsReachedSlot P X t → page_of_slot t ≡ j → slot_owner P X t ≡ x → IsRoomOf P X x j
  room_from X x j t r at o = record { reached = subst (Reached P X) o r.owner; directory = ap (inode_kind X) (sym o) ∙ r.directory; slot = (t, at, o, r.live) }

  pub room_back : (x j : ℕ) → IsRoomOf P (set I (slot_word_of P s 0) 0) x j → IsRoomOf P I x j
  room_back x j room =
      let (t, r, at, o) = slot_of_room (set I (slot_word_of P s 0) 0) x j room in
      let (old, ne) = slot_back t r in
      room_from I x j t old at (sym (owner_same t old) ∙ o)

  -- all rooms but that of the slot stay
  pub room_cases : (x j : ℕ) → IsRoomOf P I x j → ((x ≡ slot_owner P I s) × (j ≡ page_of_slot s)) ⊎ IsRoomOf P (set I (slot_word_of P s 0) 0) x j
  room_cases x j room =
      let (t, r, at, o) = slot_of_room I x j room in
      elim (cases_eq t s) [
        | inl e ↦ inl (sym o ∙ ap (slot_owner P I) e, sym at ∙ ap page_of_slot e)
        | inr ne ↦ inr (room_from (set I (slot_word_of P s 0) 0) x j t (slot_forward t ne r) at (owner_same t r ∙ o))
      ]

  pub room_here : IsRoomOf P I (slot_owner P I s) (page_of_slot s)
  room_here = room_from I (slot_owner P I s) (page_of_slot s) s old_slot refl refl

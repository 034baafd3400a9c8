-- What is kept and counted where the same slots are live and the same inodes are reached.
use Rattle.std.proofs.Common.{◌≡◌, inl, inr, ℕ, ◌<◌, ◌≤◌, List, sym, ap, subst, ◌∙◌, arith}
use Rattle.layout.specs.Fields.{word, inode_kind, inode_size, page_owner, page_offset, slot_inode}
use Rattle.layout.specs.Geometry.{inodes_of, data_pages_of, page_of_slot, inode_word_of}
use Rattle.layout.proofs.GeometryLaws.{page_of_slot_below}
use Rattle.image_reading.specs.Reading.{slot_owner, IsLive, Reached, IsReachedSlot, IsRoomOf, IsNameOf, IsChildOf, IsLinkCount, pages_of_size}
use Rattle.image_reading.specs.Repairs.{IsKept, IsKeptFilePage}
use Rattle.image_reading.specs.Soundness.{IsCoherent}
use Rattle.image_reading.proofs.Credits.{count_same}
use Rattle.image_counts.proofs.Paths.{in_range, inode_reached}
use Rattle.image_counts.proofs.Decided.{room_below}
use Rattle.repair_laws.specs.Laws.{SameUse}
use Rattle.repair_laws.proofs.Held.{SameDescriptors, still_held}

-- what of J is the same as in I
pub record Same (P : ℕ) (I J : List ℕ) : Type 0 where
  pub descriptors : SameDescriptors P I J
  pub inodes : (i f : ℕ) → 1 ≤ i → i ≤ inodes_of P → f < 16 → word J (inode_word_of i f) ≡ word I (inode_word_of i f)
  pub reached : (i : ℕ) → Reached P I i → Reached P J i
  pub live : (s : ℕ) → IsLive P I s → IsLive P J s
  pub number : (s : ℕ) → IsLive P I s → slot_inode P J s ≡ slot_inode P I s

module _ (P : ℕ) (I J : List ℕ) (coherent : IsCoherent P I) (same : Same P I J) where
  same_kind : (i : ℕ) → Reached P I i → inode_kind J i ≡ inode_kind I i
  unfolding inode_kind
  same_kind i reached = let (least, most) = in_range P I coherent i reached in same.inodes i 0 least most (omega arith)

  same_size : (i : ℕ) → Reached P I i → inode_size J i ≡ inode_size I i
  unfolding inode_size
  same_size i reached = let (least, most) = in_range P I coherent i reached in same.inodes i 2 least most (omega arith)

  same_owner : (j : ℕ) → j < data_pages_of P → page_owner P J j ≡ page_owner P I j
  unfolding page_owner
  same_owner j lt = same.descriptors j 0 lt (omega arith)

  same_offset : (j : ℕ) → j < data_pages_of P → page_offset P J j ≡ page_offset P I j
  unfolding page_offset
  same_offset j lt = same.descriptors j 2 lt (omega arith)

  slots_owner : (s : ℕ) → IsLive P I s → slot_owner P J s ≡ slot_owner P I s
  unfolding slot_owner
  slots_owner s live = same_owner (page_of_slot s) (page_of_slot_below P s live.held.in_range)

  reached_slot : (s : ℕ) → IsReachedSlot P I s → IsReachedSlot P J s
  reached_slot s slot =
      let owner = slots_owner s slot.live in record {
        owner = subst (Reached P J) (sym owner) (same.reached (slot_owner P I s) slot.owner);
        directory = ap (inode_kind J) owner ∙ same_kind (slot_owner P I s) slot.owner ∙ slot.directory;
        live = same.live s slot.live;
      }

  pub named : (i s : ℕ) → IsNameOf P I i s → IsNameOf P J i s
  named i s name = record { slot = reached_slot s name.slot; inode = same.number s name.slot.live ∙ name.inode }

  pub child : (i s : ℕ) → IsChildOf P I i s → IsChildOf P J i s
  child i s name = record {
    slot = reached_slot s name.slot;
    owner = slots_owner s name.slot.live ∙ name.owner;
    directory = ap (inode_kind J) (same.number s name.slot.live) ∙ same_kind (slot_inode P I s) (inode_reached P I coherent s name.slot) ∙ name.directory;
  }

  room : (d j : ℕ) → IsRoomOf P I d j → IsRoomOf P J d j
  room d j has = let (s, page, owner, live) = has.slot in record {
    reached = same.reached d has.reached;
    directory = same_kind d has.reached ∙ has.directory;
    slot = (s, page, slots_owner s live ∙ owner, same.live s live);
  }

  file_page : (j : ℕ) → IsKeptFilePage P I j → IsKeptFilePage P J j
  file_page j page =
      let owner = same_owner j page.in_range in record {
        in_range = page.in_range;
        owner = subst (Reached P J) (sym owner) (same.reached (page_owner P I j) page.owner);
        file = ap (inode_kind J) owner ∙ same_kind (page_owner P I j) page.owner ∙ page.file;
        below =
            let size : inode_size J (page_owner P J j) ≡ inode_size I (page_owner P I j) = ap (inode_size J) owner ∙ same_size (page_owner P I j) page.owner in
            let below' : page_offset P I j < pages_of_size (inode_size J (page_owner P J j)) = subst (λ z. page_offset P I j < pages_of_size z) (sym size) page.below in
            subst (λ z. z < pages_of_size (inode_size J (page_owner P J j))) (sym (same_offset j page.in_range)) below';
      }

  pub still_kept : (j : ℕ) → IsKept P I j → IsKept P J j
  still_kept j kept = elim kept [
    | inl page ↦ inl (file_page j page)
    | inr has ↦ inr (subst (λ d. IsRoomOf P J d j) (sym (same_owner j (room_below P I (page_owner P I j) j has))) (room (page_owner P I j) j has))
  ]

-- both ways
module _ (P : ℕ) (I J : List ℕ) (coherent : IsCoherent P I) (coherent_after : IsCoherent P J) (same : Same P I J) (back : Same P J I) where
  counted : (i n : ℕ) → Reached P I i → IsLinkCount P I i n → IsLinkCount P J i n
  counted i n reached count =
      let kind = same_kind P I J coherent same i reached in record {
        file = λ file. count_same (IsNameOf P I i) (IsNameOf P J i) n (λ s. (named P I J coherent same i s, named P J I coherent_after back i s)) (count.file (sym kind ∙ file));
        directory = λ directory. let (m, children, is) = count.directory (sym kind ∙ directory) in
            (m, count_same (IsChildOf P I i) (IsChildOf P J i) m (λ s. (child P I J coherent same i s, child P J I coherent_after back i s)) children, is);
      }

pub same_use : (P : ℕ) (I J : List ℕ) → IsCoherent P I → IsCoherent P J → Same P I J → Same P J I → SameUse P I J
same_use P I J coherent coherent_after same back = record {
  held = λ s. (still_held P I J same.descriptors s, still_held P J I back.descriptors s);
  live = λ s. (same.live s, back.live s);
  reached = λ i. (same.reached i, back.reached i);
  kept = λ j. (still_kept P I J coherent same j, still_kept P J I coherent_after back j);
  counted = λ i n reached. (
    counted P I J coherent coherent_after same back i n reached,
    counted P J I coherent_after coherent back same i n (same.reached i reached),
  );
}

-- An image and the one in which the inode number of one slot is another.
use Rattle.std.proofs.Common.{◌≡◌, ◌≢◌, ◌↔◌, ℕ, ◌+◌, ◌-◌, ◌*◌, ◌/◌, ◌%◌, ◌^◌, ◌<◌, ◌≤◌, List, length, set, sym, ap, subst, ◌∙◌, arith, length-set}
use Rattle.std.proofs.lemmas.List.{get_or-set_same, get_or-set_other}
use Rattle.layout.specs.Fields.{word, inode_kind, inode_links, inode_size, inode_own, page_owner, page_kind, page_offset, slot_inode, slot_pointer, slot_name, slot_words, page_byte}
use Rattle.layout.specs.Geometry.{inodes_of, data_pages_of, slots_of, page_of_slot, inode_word_of, descriptor_word_of, page_word_of, slot_word_of}
use Rattle.layout.proofs.GeometryLaws.{page_of_slot_below, slot_word_within}
use Rattle.layout.specs.Name.{name_in_words}
use Rattle.tree_model.specs.Tree.{Node, Directory, File}
use Rattle.image_reading.specs.Reading.{HasBytes, slot_owner, IsHeld, Reached, IsPageOf, IsNode}
use Rattle.image_reading.specs.Soundness.{Rule, PointsAtHeld, IsOnlyPointer, IsCoherent}
use Rattle.image_laws.proofs.Addresses.{head-ne_slot, descriptor-ne_slot, inode-ne_slot0, slot-ne_slot, slot-ne_field, page-ne_slot}
use Rattle.image_laws.proofs.KeptPages as pages
use Rattle.image_laws.proofs.KeptPages.{KeepsPages, held_forth, page_same}
use Rattle.image_laws.proofs.Meaning.{page_kind_is}
use Rattle.image_laws.proofs.Paths.{reached-le}
use Rattle.image_laws.proofs.Within.{IsWhole, whole, whole_same}
use Rattle.image_laws.proofs.Words.{slot_words-same}

pub record OnlySlot (P : ℕ) (I J : List ℕ) (s : ℕ) : Type 0 where
  pub size : length J ≡ length I
  pub head : (a : ℕ) → a < 5 → word J a ≡ word I a
  pub owner : (j : ℕ) → j < data_pages_of P → page_owner P J j ≡ page_owner P I j
  pub kind : (j : ℕ) → j < data_pages_of P → page_kind P J j ≡ page_kind P I j
  pub offset : (j : ℕ) → j < data_pages_of P → page_offset P J j ≡ page_offset P I j
  pub node_kind : (i : ℕ) → i ≤ inodes_of P → inode_kind J i ≡ inode_kind I i
  pub links : (i : ℕ) → i ≤ inodes_of P → inode_links J i ≡ inode_links I i
  pub node_size : (i : ℕ) → i ≤ inodes_of P → inode_size J i ≡ inode_size I i
  pub own : (i : ℕ) → i ≤ inodes_of P → inode_own J i ≡ inode_own I i
  pub inode : (t : ℕ) → t ≢ s → slot_inode P J t ≡ slot_inode P I t
  pub pointer : (t : ℕ) → slot_pointer P J t ≡ slot_pointer P I t
  pub words : (t : ℕ) → slot_words P J t ≡ slot_words P I t
  pub bytes : (j o : ℕ) → j ≢ page_of_slot s → o < 4096 → page_byte P J j o ≡ page_byte P I j o

pub only_slot : (P : ℕ) (I : List ℕ) (s v : ℕ) → 1 ≤ inodes_of P → OnlySlot P I (set I (slot_word_of P s 0) v) s
unfolding word inode_kind inode_links inode_size inode_own page_owner page_kind page_offset slot_inode slot_pointer page_byte
only_slot P I s v some = record {
  size = length-set I (slot_word_of P s 0) v;
  head = λ a lt. other a (head-ne_slot P s 0 a (omega arith));
  owner = λ j lt. other (descriptor_word_of P j 0) (descriptor-ne_slot P j 0 s 0 lt (omega arith));
  kind = λ j lt. other (descriptor_word_of P j 1) (descriptor-ne_slot P j 1 s 0 lt (omega arith));
  offset = λ j lt. other (descriptor_word_of P j 2) (descriptor-ne_slot P j 2 s 0 lt (omega arith));
  node_kind = λ i lt. other (inode_word_of i 0) (inode-ne_slot0 P i 0 s 0 some lt (omega arith));
  links = λ i lt. other (inode_word_of i 1) (inode-ne_slot0 P i 1 s 0 some lt (omega arith));
  node_size = λ i lt. other (inode_word_of i 2) (inode-ne_slot0 P i 2 s 0 some lt (omega arith));
  own = λ i lt. other (inode_word_of i 3) (inode-ne_slot0 P i 3 s 0 some lt (omega arith));
  inode = λ t ne. other (slot_word_of P t 0) (slot-ne_slot P t 0 s 0 (omega arith) (omega arith) ne);
  pointer = λ t. other (slot_word_of P t 1) (slot-ne_field P t 1 s 0 (omega arith) (omega arith) (λ z. omega (arith, z)));
  words = λ t. slot_words-same P I (set I (slot_word_of P s 0) v) t (λ f lt. other (slot_word_of P t (2 + f)) (slot-ne_field P t (2 + f) s 0 (omega arith) (omega arith) (λ z. omega (arith, z))));
  bytes = λ j o ne lt. ap (λ x. x / 256 ^ (o % 8) % 256) (other (page_word_of P j (o / 8)) (page-ne_slot P j (o / 8) s 0 (omega arith) (omega arith) ne));
}
  where
    other : (a : ℕ) → a ≢ slot_word_of P s 0 → word (set I (slot_word_of P s 0) v) a ≡ word I a
    other a ne = get_or-set_other I (slot_word_of P s 0) a v 0 ne

pub slot_inode-set : (P : ℕ) (I : List ℕ) (s v : ℕ) → length I ≡ 512 * P → s < slots_of P → slot_inode P (set I (slot_word_of P s 0) v) s ≡ v
unfolding slot_inode word
slot_inode-set P I s v e lt = get_or-set_same I (slot_word_of P s 0) v 0 (let b = slot_word_within P s 0 lt (omega arith) in omega (arith, b, e))

-- slot s has number v
pub record GetsNumber (P : ℕ) (I J : List ℕ) (s v : ℕ) : Type 0 where
  pub only : OnlySlot P I J s
  pub number : slot_inode P J s ≡ v

-- what such a change leaves
module _ {P : ℕ} {I J : List ℕ} {s : ℕ} (only : OnlySlot P I J s) where
  paged : KeepsPages P I J (λ j. ⊥)
  paged = record { owner = λ j lt none. only.owner j lt; kind = λ j lt none. only.kind j lt; offset = λ j lt none. only.offset j lt }

  pub same_owner : (t : ℕ) → t < slots_of P → slot_owner P J t ≡ slot_owner P I t
  unfolding slot_owner
  same_owner t lt = only.owner (page_of_slot t) (page_of_slot_below P t lt)

  pub same_name : (t : ℕ) → slot_name P J t ≡ slot_name P I t
  unfolding slot_name
  same_name t = ap name_in_words (only.words t)

  pub held_forward : (t : ℕ) → IsHeld P I t → IsHeld P J t
  held_forward t = held_forth paged t (λ none. none)

  pub held_back : (t : ℕ) → IsHeld P J t → IsHeld P I t
  held_back t = pages.held_back paged t (λ none. none)

  pub page_back : (x k j : ℕ) → IsPageOf P J x k j → IsPageOf P I x k j
  page_back x k j = (page_same paged x k j (λ none. none)).0

  pub page_forward : (x k j : ℕ) → IsPageOf P I x k j → IsPageOf P J x k j
  page_forward x k j = (page_same paged x k j (λ none. none)).1

  pub pointers_kept : IsCoherent P I → (t : ℕ) → PointsAtHeld P J t
  pointers_kept coherent t = record {
    other = λ held z. (coherent Rule.pointers t).other (held_back t held) (sym (only.pointer t) ∙ z);
    held = λ held nonzero.
        let e = only.pointer t in
        subst (λ x. IsHeld P J (x - 1)) (sym e) (held_forward (slot_pointer P I t - 1) ((coherent Rule.pointers t).held (held_back t held) (λ z. nonzero (e ∙ z))));
  }

  pub one_pointer_kept : IsCoherent P I → (t : ℕ) → IsOnlyPointer P J t
  one_pointer_kept coherent t r lt hr ht nonzero = only.pointer t ∙ coherent Rule.one_pointer t r lt (held_back r hr) (held_back t ht) (λ z. nonzero (only.pointer r ∙ z))

  -- what stays of pages whose owners were reached
  pub kind_reached : IsCoherent P I → (x : ℕ) → Reached P I x → inode_kind J x ≡ inode_kind I x
  kind_reached coherent x r = only.node_kind x (reached-le P I coherent x r)

  pub whole_kept : IsCoherent P I → (x : ℕ) → Reached P I x → HasBytes J x → IsWhole P J x
  whole_kept coherent x r k =
      whole_same P I J x (only.node_size x (reached-le P I coherent x r)) (λ n j lt g. page_forward x n j g) (λ n j lt g. page_back x n j g)
      (whole P I x coherent r (sym (kind_reached coherent x r) ∙ k))

  pub page_kind_kept : IsCoherent P I → (j : ℕ) → j < data_pages_of P → Reached P I (page_owner P I j) → page_kind P J j ≡ inode_kind J (page_owner P J j)
  page_kind_kept coherent j lt r =
      only.kind j lt ∙ page_kind_is P I coherent j lt r ∙ sym (kind_reached coherent (page_owner P I j) r) ∙ ap (inode_kind J) (sym (only.owner j lt))

  module _ (held : IsHeld P I s) where
    -- no file has bytes where the slot stands
    apart : (x k j : ℕ) → IsPageOf P I x k j → j ≢ page_of_slot s
    apart x k j g e = let one = g.kind in let two = ap (page_kind P I) e ∙ held.kind in omega (arith, one, two)

    pub only_node : (x : ℕ) (z : Node) → x ≤ inodes_of P → IsNode P I x z ↔ IsNode P J x z
    only_node x Directory l = (λ k. only.node_kind x l ∙ k, λ k. sym (only.node_kind x l) ∙ k)
    only_node x (File bs) l = (
      λ (k, c). (
        only.node_kind x l ∙ k,
        record {
          size = c.size ∙ sym (only.node_size x l);
          bytes_at = λ o j lt g.
              let g' = page_back x (o / 4096) j g in
              c.bytes_at o j (subst (λ z. o < z) (only.node_size x l) lt) g' ∙ sym (only.bytes j (o % 4096) (apart x (o / 4096) j g') (omega arith));
        },
      ),
      λ (k, c). (
        sym (only.node_kind x l) ∙ k,
        record {
          size = c.size ∙ only.node_size x l;
          bytes_at = λ o j lt g.
              c.bytes_at o j (subst (λ z. o < z) (sym (only.node_size x l)) lt) (page_forward x (o / 4096) j g) ∙ only.bytes j (o % 4096) (apart x (o / 4096) j g) (omega arith);
        },
      ),
    )

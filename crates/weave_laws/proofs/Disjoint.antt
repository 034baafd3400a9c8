-- Words of two calls are different words.
use Rattle.std.proofs.Common.{◌≡◌, ◌⊎◌, inl, inr, ℕ, ◌+◌, ◌/◌, ◌%◌, ◌^◌, ◌<◌, List, refl, sym, ap, subst, arith}
use Rattle.layout.specs.Fields.{word, inode_words, descriptor_words, inode_kind, inode_links, inode_size, inode_own, page_owner, page_kind, page_offset, page_byte, slot_inode, slot_pointer, slot_name}
use Rattle.layout.specs.Geometry.{page_of_slot, inode_word_of, descriptor_word_of, slot_word_of, page_word_of}
use Rattle.layout.specs.Name.{name_in_words}
use Rattle.layout.proofs.Widths.{in_inode, in_descriptor, inode_field_read, descriptor_field_read}
use Rattle.image_reading.specs.Counts.{IsIn}
use Rattle.image_laws.proofs.Addresses.{descriptor-ne_inode, descriptor-ne_slot, descriptor-ne_page, inode-ne_slot, page-ne_inode, inode_word-one, descriptor_word-one, slot_word-one, page_word-one, slot_in_page, word_in_page, word_in_page-lt, slot_word-in_page}
use Rattle.image_laws.proofs.Words.{slot_words-same}
use Rattle.weave_laws.specs.Beside.{IsWordOf, AreAmong, WiderLaw, AreInVolume, AreApart, KeepsSlot, KeepsPage, KeepsInode, Keeps, DisjointLaw}

-- ---- more words

module _ {P : ℕ} {I slots pages inodes more_slots more_pages more_inodes : List ℕ} (among : AreAmong slots pages inodes more_slots more_pages more_inodes) where
  pub wider : (a : ℕ) → IsWordOf P I slots pages inodes a → IsWordOf P I more_slots more_pages more_inodes a
  wider _ (IsWordOf.slot s f here few) = elim (among.of_slots s here) [
    | inl slot ↦ IsWordOf.slot s f slot few
    | inr page ↦ subst (IsWordOf P I more_slots more_pages more_inodes) (sym (slot_word-in_page P s f)) (IsWordOf.page (page_of_slot s) (word_in_page s f) page (word_in_page-lt s f few))
  ]
  wider _ (IsWordOf.page j w here few) = IsWordOf.page j w (among.of_pages j here) few
  wider _ (IsWordOf.descriptor j f here few) = IsWordOf.descriptor j f (among.of_pages j here) few
  wider _ (IsWordOf.inode i f here few) = IsWordOf.inode i f (among.of_inodes i here) few

pub wider_law : WiderLaw
wider_law P I J slots pages inodes more_slots more_pages more_inodes among stores = record {
  size = stores.size;
  others = λ a none. stores.others a (λ is. none (wider among a is));
}

-- ---- other words

module _ {P : ℕ} {I slots pages inodes other_slots other_pages other_inodes : List ℕ} (volume : AreInVolume P pages inodes) (other_volume : AreInVolume P other_pages other_inodes)
    (apart : AreApart slots pages inodes other_slots other_pages other_inodes) where
  no_slot_word : (s f b : ℕ) → IsIn s slots → f < 16 → slot_word_of P s f ≡ b → ¬ IsWordOf P I other_slots other_pages other_inodes b
  no_slot_word s f _ here few e (IsWordOf.slot t g there less) = apart.of_slots s here (subst (λ x. IsIn x other_slots) (sym (slot_word-one P s f t g few less e).0) there)
  no_slot_word s f _ here few e (IsWordOf.page j w there less) = apart.no_slot s here (subst (λ x. IsIn x other_pages) (sym (slot_in_page P s f j w few less e)) there)
  no_slot_word s f _ here few e (IsWordOf.descriptor j g there less) = descriptor-ne_slot P j g s f (other_volume.of_pages j there) (in_descriptor I g less) (sym e)
  no_slot_word s f _ here few e (IsWordOf.inode i g there less) =
      let inode = other_volume.of_inodes i there in
      inode-ne_slot P i g s f inode.from_one inode.in_range (in_inode I g less) (sym e)

  no_page_word : (j w b : ℕ) → IsIn j pages → w < 512 → page_word_of P j w ≡ b → ¬ IsWordOf P I other_slots other_pages other_inodes b
  no_page_word j w _ here few e (IsWordOf.slot t g there less) = apart.no_other_slot t there (subst (λ x. IsIn x pages) (sym (slot_in_page P t g j w less few (sym e))) here)
  no_page_word j w _ here few e (IsWordOf.page k v there less) = apart.of_pages j here (subst (λ x. IsIn x other_pages) (sym (page_word-one P j w k v few less e).0) there)
  no_page_word j w _ here few e (IsWordOf.descriptor k g there less) = descriptor-ne_page P k g j w (other_volume.of_pages k there) (in_descriptor I g less) (sym e)
  no_page_word j w _ here few e (IsWordOf.inode i g there less) =
      let inode = other_volume.of_inodes i there in
      page-ne_inode P j w i g inode.from_one inode.in_range (in_inode I g less) e

  no_descriptor_word : (j f b : ℕ) → IsIn j pages → f < descriptor_words I → descriptor_word_of P j f ≡ b → ¬ IsWordOf P I other_slots other_pages other_inodes b
  no_descriptor_word j f _ here few e (IsWordOf.slot t g there less) = descriptor-ne_slot P j f t g (volume.of_pages j here) (in_descriptor I f few) e
  no_descriptor_word j f _ here few e (IsWordOf.page k v there less) = descriptor-ne_page P j f k v (volume.of_pages j here) (in_descriptor I f few) e
  no_descriptor_word j f _ here few e (IsWordOf.descriptor k g there less) =
      apart.of_pages j here (subst (λ x. IsIn x other_pages) (sym (descriptor_word-one P j f k g (in_descriptor I f few) (in_descriptor I g less) e).0) there)
  no_descriptor_word j f _ here few e (IsWordOf.inode i g there less) =
      let inode = other_volume.of_inodes i there in
      descriptor-ne_inode P j f i g inode.from_one inode.in_range (in_inode I g less) e

  no_inode_word : (i f b : ℕ) → IsIn i inodes → f < inode_words I → inode_word_of i f ≡ b → ¬ IsWordOf P I other_slots other_pages other_inodes b
  no_inode_word i f _ here few e (IsWordOf.slot t g there less) =
      let inode = volume.of_inodes i here in
      inode-ne_slot P i f t g inode.from_one inode.in_range (in_inode I f few) e
  no_inode_word i f _ here few e (IsWordOf.page k v there less) =
      let inode = volume.of_inodes i here in
      page-ne_inode P k v i f inode.from_one inode.in_range (in_inode I f few) (sym e)
  no_inode_word i f _ here few e (IsWordOf.descriptor k g there less) =
      let inode = volume.of_inodes i here in
      descriptor-ne_inode P k g i f inode.from_one inode.in_range (in_inode I f few) (sym e)
  no_inode_word i f _ here few e (IsWordOf.inode x g there less) =
      let inode = volume.of_inodes i here in
      let other = other_volume.of_inodes x there in
      apart.of_inodes i here (subst (λ z. IsIn z other_inodes) (sym (inode_word-one i f x g inode.from_one other.from_one (in_inode I f few) (in_inode I g less) e).0) there)

  pub no_word : (a : ℕ) → IsWordOf P I slots pages inodes a → ¬ IsWordOf P I other_slots other_pages other_inodes a
  no_word _ (IsWordOf.slot s f here few) = no_slot_word s f (slot_word_of P s f) here few refl
  no_word _ (IsWordOf.page j w here few) = no_page_word j w (page_word_of P j w) here few refl
  no_word _ (IsWordOf.descriptor j f here few) = no_descriptor_word j f (descriptor_word_of P j f) here few refl
  no_word _ (IsWordOf.inode i f here few) = no_inode_word i f (inode_word_of i f) here few refl

-- ---- what they say

module _ (P : ℕ) (I J slots pages inodes : List ℕ) (same : (a : ℕ) → IsWordOf P I slots pages inodes a → word J a ≡ word I a) where
  slot_word : (s f : ℕ) → IsIn s slots ⊎ IsIn (page_of_slot s) pages → f < 16 → word J (slot_word_of P s f) ≡ word I (slot_word_of P s f)
  slot_word s f here few = elim here [
    | inl slot ↦ same (slot_word_of P s f) (IsWordOf.slot s f slot few)
    | inr page ↦ subst (λ a. word J a ≡ word I a) (sym (slot_word-in_page P s f)) (same (page_word_of P (page_of_slot s) (word_in_page s f)) (IsWordOf.page (page_of_slot s) (word_in_page s f) page (word_in_page-lt s f few)))
  ]

  keeps_slot : (s : ℕ) → IsIn s slots ⊎ IsIn (page_of_slot s) pages → KeepsSlot P I J s
  unfolding slot_inode slot_pointer slot_name
  keeps_slot s here =
      let words = slot_words-same P I J s (λ f few. slot_word s (2 + f) here (omega (arith, few))) in
      record { number = slot_word s 0 here (omega arith); pointer = slot_word s 1 here (omega arith); words = words; name = ap name_in_words words }

  descriptor_word : (j f : ℕ) → IsIn j pages → f < descriptor_words I → word J (descriptor_word_of P j f) ≡ word I (descriptor_word_of P j f)
  descriptor_word j f here few = same (descriptor_word_of P j f) (IsWordOf.descriptor j f here few)

  byte : (j o : ℕ) → IsIn j pages → o < 4096 → page_byte P J j o ≡ page_byte P I j o
  unfolding page_byte
  byte j o here few = ap (λ x. x / 256 ^ (o % 8) % 256) (same (page_word_of P j (o / 8)) (IsWordOf.page j (o / 8) here (omega (arith, few))))

  keeps_page : (j : ℕ) → IsIn j pages → KeepsPage P I J j
  unfolding page_owner page_kind page_offset
  keeps_page j here = record {
    owner = descriptor_word j 0 here (descriptor_field_read I 0 (omega arith));
    kind = descriptor_word j 1 here (descriptor_field_read I 1 (omega arith));
    offset = descriptor_word j 2 here (descriptor_field_read I 2 (omega arith));
    bytes = λ o few. byte j o here few;
  }

  inode_word : (i f : ℕ) → IsIn i inodes → f < inode_words I → word J (inode_word_of i f) ≡ word I (inode_word_of i f)
  inode_word i f here few = same (inode_word_of i f) (IsWordOf.inode i f here few)

  keeps_inode : (i : ℕ) → IsIn i inodes → KeepsInode I J i
  unfolding inode_kind inode_links inode_size inode_own
  keeps_inode i here = record {
    kind = inode_word i 0 here (inode_field_read I 0 (omega arith));
    links = inode_word i 1 here (inode_field_read I 1 (omega arith));
    size = inode_word i 2 here (inode_field_read I 2 (omega arith));
    own = inode_word i 3 here (inode_field_read I 3 (omega arith));
  }

  pub keeps : Keeps P I J slots pages inodes
  keeps = record { words = same; of_slots = keeps_slot; of_pages = keeps_page; of_inodes = keeps_inode }

pub disjoint_law : DisjointLaw
disjoint_law P I J slots pages inodes other_slots other_pages other_inodes volume other_volume apart stores =
    keeps P I J other_slots other_pages other_inodes (λ a is. stores.others a (λ mine. no_word volume other_volume apart a mine is))

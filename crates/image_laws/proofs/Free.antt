-- A free word isn't used.
use Rattle.std.proofs.Common.{◌≡◌, ◌≢◌, ◌↔◌, ◌⊎◌, inl, inr, ℕ, ◌+◌, ◌*◌, ◌<◌, ◌≤◌, List, refl, sym, ap, subst, ◌∙◌, arith, length, get_or, set, length-set}
use Rattle.std.proofs.lemmas.Bool.{cases_eq}
use Rattle.std.proofs.lemmas.List.{get_or-set_other, ext_get_or}
use Rattle.layout.specs.Fields.{word, inode_words, descriptor_words, inode_size, page_owner, page_kind}
use Rattle.layout.specs.Geometry.{inodes_of, data_pages_of, page_of_slot, inode_word_of, descriptor_word_of, page_word_of, slot_word_of}
use Rattle.layout.proofs.Widths.{inode_field_read, descriptor_field_read}
use Rattle.image_reading.specs.Reading.{slot_owner, IsHeld, Reached, IsReachedSlot, IsPageOf, IsRoomOf}
use Rattle.image_reading.specs.Soundness.{IsCoherent}
use Rattle.image_laws.specs.Free.{IsFree, Stores, FreeLaw, StoresLaw}
use Rattle.image_laws.specs.Quiet.{IsMix}
use Rattle.image_laws.specs.Words.{IsUsed, IsByteOf}
use Rattle.image_laws.proofs.Addresses.{head-ne_inode, head-ne_slot, descriptor-ne_inode, descriptor-ne_slot, inode-ne_slot, page-ne_inode, head-ne_descriptor, head-ne_page, descriptor-ne_page, inode_word-one, descriptor_word-one, slot_word-one, slot_in_page, page_word-one, word_in_page, word_in_page-lt, slot_word-in_page}
use Rattle.image_laws.specs.Agrees.{Alike}
use Rattle.image_laws.specs.Frame.{SameMeaning}
use Rattle.image_laws.proofs.Frame.{alike}
use Rattle.image_laws.proofs.Meaning.{shape, reached_slot, reached_slot_forward, same_chained}
use Rattle.image_laws.proofs.Quiet.{mix_law, quiet_agrees}
use Rattle.image_laws.proofs.Words.{agrees_from_words, bytes_from_words}
use Rattle.image_laws.proofs.Paths.{reached_pos, reached-le}

module _ (P : ℕ) (I : List ℕ) (coherent : IsCoherent P I) where
  pos : (i : ℕ) → Reached P I i → 1 ≤ i
  pos i r = let h = reached_pos P I i r in omega arith

  -- what is used at an address
  used_inode : (i f : ℕ) → 1 ≤ i → i ≤ inodes_of P → f < 16 → {a : ℕ} → IsUsed P I a → a ≡ inode_word_of i f → Reached P I i × (f ≢ 1) × (f < inode_words I)
  used_inode i f p m lt (IsUsed.head a l) e = absurd (head-ne_inode i f a (omega arith) e)
  used_inode i f p m lt (IsUsed.kind j l o) e = absurd (descriptor-ne_inode P j 1 i f p m lt e)
  used_inode i f p m lt (IsUsed.offset j l o) e = absurd (descriptor-ne_inode P j 2 i f p m lt e)
  used_inode i f p m lt (IsUsed.slot_inode s h) e = absurd (inode-ne_slot P i f s 0 p m lt (sym e))
  used_inode i f p m lt (IsUsed.pointer s h) e = absurd (inode-ne_slot P i f s 1 p m lt (sym e))
  used_inode i f p m lt (IsUsed.name s g l r) e = absurd (inode-ne_slot P i f s (2 + g) p m lt (sym e))
  used_inode i f p m lt (IsUsed.node_kind k r) e = let (x, y) = inode_word-one k 0 i f (pos k r) p (omega arith) lt e in
      (subst (Reached P I) x r, λ z. omega (arith, y, z), inode_field_read I f (omega (arith, y)))
  used_inode i f p m lt (IsUsed.size k r) e = let (x, y) = inode_word-one k 2 i f (pos k r) p (omega arith) lt e in
      (subst (Reached P I) x r, λ z. omega (arith, y, z), inode_field_read I f (omega (arith, y)))
  used_inode i f p m lt (IsUsed.own k r) e = let (x, y) = inode_word-one k 3 i f (pos k r) p (omega arith) lt e in
      (subst (Reached P I) x r, λ z. omega (arith, y, z), inode_field_read I f (omega (arith, y)))

  used_descriptor : (j f : ℕ) → j < data_pages_of P → f < 8 → {a : ℕ} → IsUsed P I a → a ≡ descriptor_word_of P j f → (page_owner P I j ≢ 0) × (f ≢ 0) × (f < descriptor_words I)
  used_descriptor j f lt l8 (IsUsed.head a l) e = absurd (head-ne_descriptor P j f a (omega arith) e)
  used_descriptor j f lt l8 (IsUsed.kind k l o) e = let (x, y) = descriptor_word-one P k 1 j f (omega arith) l8 e in
      (λ z. o (ap (page_owner P I) x ∙ z), λ z. omega (arith, y, z), descriptor_field_read I f (omega (arith, y)))
  used_descriptor j f lt l8 (IsUsed.offset k l o) e = let (x, y) = descriptor_word-one P k 2 j f (omega arith) l8 e in
      (λ z. o (ap (page_owner P I) x ∙ z), λ z. omega (arith, y, z), descriptor_field_read I f (omega (arith, y)))
  used_descriptor j f lt l8 (IsUsed.slot_inode s h) e = absurd (descriptor-ne_slot P j f s 0 lt l8 (sym e))
  used_descriptor j f lt l8 (IsUsed.pointer s h) e = absurd (descriptor-ne_slot P j f s 1 lt l8 (sym e))
  used_descriptor j f lt l8 (IsUsed.name s g l r) e = absurd (descriptor-ne_slot P j f s (2 + g) lt l8 (sym e))
  used_descriptor j f lt l8 (IsUsed.node_kind k r) e = absurd (descriptor-ne_inode P j f k 0 (pos k r) (reached-le P I coherent k r) (omega arith) (sym e))
  used_descriptor j f lt l8 (IsUsed.size k r) e = absurd (descriptor-ne_inode P j f k 2 (pos k r) (reached-le P I coherent k r) (omega arith) (sym e))
  used_descriptor j f lt l8 (IsUsed.own k r) e = absurd (descriptor-ne_inode P j f k 3 (pos k r) (reached-le P I coherent k r) (omega arith) (sym e))

  -- in a data page a used word is of a held slot, and its own if it is a name's of a reached one
  used_page : (j w : ℕ) → w < 512 → {a : ℕ} → IsUsed P I a → a ≡ page_word_of P j w →
      (s : ℕ) × (f : ℕ) × (f < 16) × (a ≡ slot_word_of P s f) × IsHeld P I s × (page_of_slot s ≡ j) × ((f < 2) ⊎ IsReachedSlot P I s)
  used_page j w lt (IsUsed.head a l) e = absurd (head-ne_page P j w a (omega arith) e)
  used_page j w lt (IsUsed.kind k l o) e = absurd (descriptor-ne_page P k 1 j w l (omega arith) e)
  used_page j w lt (IsUsed.offset k l o) e = absurd (descriptor-ne_page P k 2 j w l (omega arith) e)
  used_page j w lt (IsUsed.slot_inode s h) e = (s, 0, omega arith, refl, h, slot_in_page P s 0 j w (omega arith) lt e, inl (omega arith))
  used_page j w lt (IsUsed.pointer s h) e = (s, 1, omega arith, refl, h, slot_in_page P s 1 j w (omega arith) lt e, inl (omega arith))
  used_page j w lt (IsUsed.name s g l r) e = (s, 2 + g, omega arith, refl, r.live.held, slot_in_page P s (2 + g) j w (omega arith) lt e, inr r)
  used_page j w lt (IsUsed.node_kind k r) e = absurd (page-ne_inode P j w k 0 (pos k r) (reached-le P I coherent k r) (omega arith) (sym e))
  used_page j w lt (IsUsed.size k r) e = absurd (page-ne_inode P j w k 2 (pos k r) (reached-le P I coherent k r) (omega arith) (sym e))
  used_page j w lt (IsUsed.own k r) e = absurd (page-ne_inode P j w k 3 (pos k r) (reached-le P I coherent k r) (omega arith) (sym e))

  not_head : (b : ℕ) → 5 ≤ b → b < 512 → {a : ℕ} → IsUsed P I a → a ≡ b → ⊥
  not_head b low high (IsUsed.head a l) e = omega arith
  not_head b low high (IsUsed.kind j l o) e = head-ne_descriptor P j 1 b high (sym e)
  not_head b low high (IsUsed.offset j l o) e = head-ne_descriptor P j 2 b high (sym e)
  not_head b low high (IsUsed.slot_inode s h) e = head-ne_slot P s 0 b high (sym e)
  not_head b low high (IsUsed.pointer s h) e = head-ne_slot P s 1 b high (sym e)
  not_head b low high (IsUsed.name s g l r) e = head-ne_slot P s (2 + g) b high (sym e)
  not_head b low high (IsUsed.node_kind k r) e = head-ne_inode k 0 b high (sym e)
  not_head b low high (IsUsed.size k r) e = head-ne_inode k 2 b high (sym e)
  not_head b low high (IsUsed.own k r) e = head-ne_inode k 3 b high (sym e)

  free_used : {a : ℕ} → IsFree P I a → IsUsed P I a → ⊥
  unfolding slot_owner
  free_used (IsFree.superblock a low high) u = not_head a low high u refl
  free_used (IsFree.rest i f p m low lt) u = let few = (used_inode i f p m lt u refl).2 in omega (arith, few)
  free_used (IsFree.tail j f lt low l8) u = let few = (used_descriptor j f lt l8 u refl).2 in omega (arith, few)
  free_used (IsFree.link i p m) u = (used_inode i 1 p m (omega arith) u refl).1 refl
  free_used (IsFree.inode i f p m lt unreached) u = unreached (used_inode i f p m lt u refl).0
  free_used (IsFree.owner j lt) u = (used_descriptor j 0 lt (omega arith) u refl).1 refl
  free_used (IsFree.descriptor j f lt l8 z) u = (used_descriptor j f lt l8 u refl).0 z
  free_used (IsFree.name s f two lt held dead) u =
      let (t, g, l, e, h, same, c) = used_page (page_of_slot s) (word_in_page s f) (word_in_page-lt s f lt) u (slot_word-in_page P s f) in
      let (x, y) = slot_word-one P s f t g lt l e in
      elim c [ inl low ↦ omega (arith, y, low) | inr r ↦ dead (subst (IsReachedSlot P I) (sym x) r) ]
  free_used (IsFree.page j w lt l z) u = let (s, f, l16, e, h, at, c) = used_page j w l u refl in h.owned (ap (page_owner P I) at ∙ z)
  free_used (IsFree.past i k j w g l past) u = let (s, f, l16, e, h, at, c) = used_page j w l u refl in
      let two = h.kind in let one = ap (page_kind P I) at ∙ g.kind in omega (arith, one, two)

  byte_page : (j w : ℕ) → w < 512 → (i : ℕ) {a : ℕ} → IsByteOf P I i a → a ≡ page_word_of P j w → (k : ℕ) × IsPageOf P I i k j × (4096 * k + 8 * w < inode_size I i)
  byte_page j w lt i (IsByteOf.byte k h v g l below) e =
      let (x, y) = page_word-one P h v j w l lt e in (k, subst (IsPageOf P I i k) x g, subst (λ z. 4096 * k + 8 * z < inode_size I i) y below)

  not_inode : (i k f : ℕ) → 1 ≤ k → k ≤ inodes_of P → f < 16 → {a : ℕ} → IsByteOf P I i a → a ≡ inode_word_of k f → ⊥
  not_inode i k f p m lt (IsByteOf.byte o j w g l below) e = page-ne_inode P j w k f p m lt e

  not_descriptor : (i j f : ℕ) → j < data_pages_of P → f < 8 → {a : ℕ} → IsByteOf P I i a → a ≡ descriptor_word_of P j f → ⊥
  not_descriptor i j f lt l8 (IsByteOf.byte o h w g l below) e = descriptor-ne_page P j f h w lt l8 (sym e)

  byte_above : (i b : ℕ) → b < 512 → {a : ℕ} → IsByteOf P I i a → a ≡ b → ⊥
  byte_above i b high (IsByteOf.byte o j w g l below) e = head-ne_page P j w b high (sym e)

  free_byte : (i : ℕ) → Reached P I i → {a : ℕ} → IsFree P I a → IsByteOf P I i a → ⊥
  unfolding slot_owner
  free_byte i r (IsFree.superblock a low high) b = byte_above i a high b refl
  free_byte i r (IsFree.link k p m) b = not_inode i k 1 p m (omega arith) b refl
  free_byte i r (IsFree.rest k f p m low lt) b = not_inode i k f p m lt b refl
  free_byte i r (IsFree.inode k f p m lt unreached) b = not_inode i k f p m lt b refl
  free_byte i r (IsFree.owner j lt) b = not_descriptor i j 0 lt (omega arith) b refl
  free_byte i r (IsFree.tail j f lt low l8) b = not_descriptor i j f lt l8 b refl
  free_byte i r (IsFree.descriptor j f lt l8 z) b = not_descriptor i j f lt l8 b refl
  free_byte i r (IsFree.name s f two lt held dead) b =
      let (k, g, below) = byte_page (page_of_slot s) (word_in_page s f) (word_in_page-lt s f lt) i b (slot_word-in_page P s f) in
      let one = g.kind in let two' = held.kind in omega (arith, one, two')
  free_byte i r (IsFree.page j w lt l z) b = let (k, g, below) = byte_page j w l i b refl in reached_pos P I i r (sym g.owner ∙ z)
  free_byte i r (IsFree.past h k j w g l past) b =
      let (n, f, below) = byte_page j w l i b refl in
      let same : h ≡ i = sym g.owner ∙ f.owner in
      let offset : k ≡ n = sym g.offset ∙ f.offset in
      let past' = subst (λ z. inode_size I z ≤ 4096 * k + 8 * w) same past in
      omega (arith, past', below, offset)

pub free_law : FreeLaw
free_law P I J coherent t = (
  record {
    size = t.size;
    words = λ a u. elim (t.words a) [ inl e ↦ e | inr f ↦ absurd (free_used P I coherent f u) ];
    owners = t.owners;
    links = t.links;
  },
  (λ i r k a b. elim (t.words a) [ inl e ↦ e | inr f ↦ absurd (free_byte P I coherent i r f b) ]),
)

pub stores_law : StoresLaw
stores_law P I J M coherent t m = let (quiet, bytes) = free_law P I J coherent t in mix_law P I J M coherent quiet (λ i r file. bytes_from_words P I J i (bytes i r file)) m

-- a mix of a list and the list with one word stored is one of the two
pub mix_one : (A M : List ℕ) (x v : ℕ) → x < length A → IsMix A (set A x v) M → (M ≡ A) ⊎ (M ≡ set A x v)
unfolding word
mix_one A M x v lt m = elim (m.words x) [
  | inl e ↦ inl (ext_get_or 0 M A m.size (λ b l. elim (cases_eq b x) [
    | inl h ↦ subst (λ z. get_or M z 0 ≡ get_or A z 0) (sym h) e
    | inr ne ↦ elim (m.words b) [ inl f ↦ f | inr f ↦ f ∙ get_or-set_other A x b v 0 ne ]
  ]))
  | inr e ↦ inr (ext_get_or 0 M (set A x v) (m.size ∙ sym (length-set A x v)) (λ b l. elim (cases_eq b x) [
    | inl h ↦ subst (λ z. get_or M z 0 ≡ get_or (set A x v) z 0) (sym h) e
    | inr ne ↦ elim (m.words b) [ inl f ↦ f ∙ sym (get_or-set_other A x b v 0 ne) | inr f ↦ f ]
  ]))
]

-- a new image is a mix
pub mix_itself : (I J : List ℕ) → length J ≡ length I → IsMix I J J
mix_itself I J size = record { size = size; words = λ a. inr refl }

-- an interval that stores to free words leaves what is alike
pub alike_stores : (P : ℕ) (I J : List ℕ) → IsCoherent P I → Stores P I J → Alike P I J
alike_stores P I J coherent stores = alike P I J (agrees_from_words P I J coherent (quiet_agrees P I J coherent (free_law P I J coherent stores).0)) coherent

-- the version isn't free
pub version_stores : (P : ℕ) (I J : List ℕ) → IsCoherent P I → Stores P I J → word J 1 ≡ word I 1
version_stores P I J coherent stores = (free_law P I J coherent stores).0.words 1 (IsUsed.head 1 (omega arith))

pub same_stores : (P : ℕ) (I J : List ℕ) → IsCoherent P I → Stores P I J → SameMeaning P I J
same_stores P I J coherent stores = stores_law P I J J coherent stores (mix_itself I J stores.size)

-- J means what I means, with the same version, reached slots and rooms
pub record SameEntries (P : ℕ) (I J : List ℕ) : Type 0 where
  pub same : SameMeaning P I J
  pub version : word J 1 ≡ word I 1
  pub slots : (t : ℕ) → IsReachedSlot P I t ↔ IsReachedSlot P J t
  pub rooms : (x j : ℕ) → IsRoomOf P I x j ↔ IsRoomOf P J x j

pub entries_stores : (P : ℕ) (I J : List ℕ) → IsCoherent P I → Stores P I J → SameEntries P I J
entries_stores P I J coherent stores =
    let same = alike_stores P I J coherent stores in
    record {
      same = same_stores P I J coherent stores;
      version = version_stores P I J coherent stores;
      slots = λ t. ((λ r. (reached_slot_forward P I J same t r).1), (λ r. (reached_slot P I J same t r).1));
      rooms = (shape P I J coherent same).directories;
    }

pub entries_chained : (P : ℕ) (I J K : List ℕ) → SameEntries P I J → SameEntries P J K → SameEntries P I K
entries_chained P I J K first second = record {
  same = same_chained P I J K first.same second.same;
  version = second.version ∙ first.version;
  slots = λ t. ((λ r. (second.slots t).0 ((first.slots t).0 r)), (λ r. (first.slots t).1 ((second.slots t).1 r)));
  rooms = λ x j. ((λ room. (second.rooms x j).0 ((first.rooms x j).0 room)), (λ room. (first.rooms x j).1 ((second.rooms x j).1 room)));
}

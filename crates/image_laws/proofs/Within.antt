-- An image is coherent whose reached slots are slots of a coherent one, or new ones that fit.
use Rattle.std.proofs.Common.{◌≡◌, ◌≢◌, ◌⊎◌, inl, inr, ℕ, ◌^◌, ◌<◌, ◌≤◌, List, [], length, sym, ap, subst, ◌∙◌, arith}
use Rattle.layout.specs.Fields.{inode_kind, inode_links, inode_size, inode_own, page_owner, page_kind, slot_inode, slot_name, slot_words}
use Rattle.layout.specs.Geometry.{inodes_of, data_pages_of}
use Rattle.layout.specs.Name.{name_in_words, IsNameWords}
use Rattle.image_reading.specs.Reading.{IsDirectory, HasBytes, slot_owner, Reached, IsReachedSlot, IsPageOf, pages_of_size, IsNameOf, IsChildOf}
use Rattle.image_reading.specs.Soundness.{Rule, HasHead, PointsAtHeld, IsOnlyPointer, IsCoherent, HasLinks}
use Rattle.image_laws.proofs.Counts.{at_most}
use Rattle.image_laws.proofs.Meaning.{formed}

-- what rules 11 to 13 say of a file
pub record IsWhole (P : ℕ) (I : List ℕ) (i : ℕ) : Type 0 where
  pub small : inode_size I i ≤ 2 ^ 40
  pub full : (k : ℕ) → k < pages_of_size (inode_size I i) → (j : ℕ) × IsPageOf P I i k j
  pub one : (h j k : ℕ) → h < j → k < pages_of_size (inode_size I i) → IsPageOf P I i k h → IsPageOf P I i k j → ⊥

pub whole : (P : ℕ) (I : List ℕ) (i : ℕ) → IsCoherent P I → Reached P I i → HasBytes I i → IsWhole P I i
whole P I i coherent r k = record {
  small = coherent Rule.sizes i r k;
  full = coherent Rule.all_pages i r k;
  one = λ h j n lt below. coherent Rule.own_offsets j h i n lt r k below;
}

pub whole_same : (P : ℕ) (I J : List ℕ) (i : ℕ) → inode_size J i ≡ inode_size I i →
    ((k j : ℕ) → k < pages_of_size (inode_size I i) → IsPageOf P I i k j → IsPageOf P J i k j) →
    ((k j : ℕ) → k < pages_of_size (inode_size I i) → IsPageOf P J i k j → IsPageOf P I i k j) → IsWhole P I i → IsWhole P J i
whole_same P I J i e f g w = record {
  small = subst (λ z. z ≤ 2 ^ 40) (sym e) w.small;
  full = λ k lt. let lt' = subst (λ z. k < pages_of_size z) e lt in let (j, h) = w.full k lt' in (j, f k j lt' h);
  one = λ h j k lt below x y. let lt' = subst (λ z. k < pages_of_size z) e below in w.one h j k lt lt' (g k h lt' x) (g k j lt' y);
}

-- a slot of I that J has too
pub record OldSlot (P : ℕ) (I J : List ℕ) (New : ℕ → Type 0) (s : ℕ) : Type 0 where
  pub other : ¬ New s
  pub reached : IsReachedSlot P I s
  pub inode : slot_inode P J s ≡ slot_inode P I s
  pub owner : slot_owner P J s ≡ slot_owner P I s
  pub words : slot_words P J s ≡ slot_words P I s

-- a slot that has another number in J: it names an inode, and no other slot has its name or names its directory
pub record NewSlot (P : ℕ) (I J : List ℕ) (New : ℕ → Type 0) (s : ℕ) : Type 0 where
  pub alone : (t : ℕ) → New t → s ≡ t
  pub range : (2 ≤ slot_inode P J s) × (slot_inode P J s ≤ inodes_of P)
  pub words : IsNameWords (slot_words P J s)
  pub name : (t : ℕ) → IsReachedSlot P J t → OldSlot P I J New t → slot_owner P I t ≡ slot_owner P J s → slot_name P I t ≢ slot_name P J s
  pub directory : (t : ℕ) → IsReachedSlot P J t → OldSlot P I J New t → IsDirectory J (slot_inode P J s) → slot_inode P I t ≢ slot_inode P J s

pub record OldInode (P : ℕ) (I J : List ℕ) (i : ℕ) : Type 0 where
  pub reached : Reached P I i
  pub kind : inode_kind J i ≡ inode_kind I i
  pub own : inode_own J i ≡ inode_own I i

pub record NewInode (J : List ℕ) (i : ℕ) : Type 0 where
  pub other : i ≢ 1
  pub kind : HasBytes J i ⊎ IsDirectory J i
  pub own : inode_own J i ≡ i

pub record Within (P : ℕ) (I J : List ℕ) (New : ℕ → Type 0) : Type 0 where
  pub size : length J ≡ length I
  pub head : (x : ℕ) → HasHead P J x
  pub pointers : (s : ℕ) → PointsAtHeld P J s
  pub one_pointer : (s : ℕ) → IsOnlyPointer P J s
  pub slots : (s : ℕ) → IsReachedSlot P J s → New s ⊎ OldSlot P I J New s
  pub new : (s : ℕ) → New s → NewSlot P I J New s
  pub named : (s : ℕ) → IsReachedSlot P I s → inode_kind J (slot_inode P I s) ≡ inode_kind I (slot_inode P I s)
  pub inodes : (i : ℕ) → Reached P J i → OldInode P I J i ⊎ NewInode J i
  pub links : (i : ℕ) → Reached P J i → HasLinks P J i (inode_links J i)
  pub kinds : (j : ℕ) → j < data_pages_of P → Reached P J (page_owner P J j) → page_kind P J j ≡ inode_kind J (page_owner P J j)
  pub files : (i : ℕ) → Reached P J i → HasBytes J i → IsWhole P J i

module _ (P : ℕ) (I J : List ℕ) (New : ℕ → Type 0) (coherent : IsCoherent P I) (w : Within P I J New) where
  name_same : (s : ℕ) → OldSlot P I J New s → slot_name P J s ≡ slot_name P I s
  unfolding slot_name
  name_same s o = ap name_in_words o.words

  range : (s : ℕ) → IsReachedSlot P J s → (2 ≤ slot_inode P J s) × (slot_inode P J s ≤ inodes_of P)
  range s r = elim (w.slots s r) [
    | inl new ↦ (w.new s new).range
    | inr o ↦ subst (λ i. (2 ≤ i) × (i ≤ inodes_of P)) (sym o.inode) ((coherent Rule.inodes s).least o.reached, (coherent Rule.inodes s).most o.reached)
  ]

  pub within_coherent : IsCoherent P J
  within_coherent Rule.head x = w.head x
  within_coherent Rule.root x = record {
    directory = λ z. elim (w.inodes x ([], z)) [ inl o ↦ o.kind ∙ (coherent Rule.root x).directory z | inr new ↦ absurd (new.other z) ];
    own = λ z. elim (w.inodes x ([], z)) [ inl o ↦ o.own ∙ (coherent Rule.root x).own z | inr new ↦ new.own ];
  }
  within_coherent Rule.pointers x = w.pointers x
  within_coherent Rule.one_pointer x = w.one_pointer x
  within_coherent Rule.inodes x = record { least = λ r. (range x r).0; most = λ r. (range x r).1 }
  within_coherent Rule.names x = λ r. elim (w.slots x r) [ inl new ↦ (w.new x new).words | inr o ↦ subst IsNameWords (sym o.words) (coherent Rule.names x o.reached) ]
  within_coherent Rule.kinds x = record {
    kind = λ r. elim (w.inodes x r) [ inl o ↦ formed I J x o.kind ((coherent Rule.kinds x).kind o.reached) | inr new ↦ new.kind ];
    own = λ r. elim (w.inodes x r) [ inl o ↦ o.own ∙ (coherent Rule.kinds x).own o.reached | inr new ↦ new.own ];
  }
  within_coherent Rule.own_names x = λ r lt a b owners names. elim (w.slots r a) [
    | inl new ↦ elim (w.slots x b) [
      | inl too ↦ (let same = (w.new r new).alone x too in omega (arith, lt, same))
      | inr o ↦ (w.new r new).name x b o (sym o.owner ∙ sym owners) (sym (name_same x o) ∙ sym names)
    ]
    | inr p ↦ elim (w.slots x b) [
      | inl new ↦ (w.new x new).name r a p (sym p.owner ∙ owners) (sym (name_same r p) ∙ names)
      | inr o ↦ coherent Rule.own_names x r lt p.reached o.reached (sym p.owner ∙ owners ∙ o.owner) (sym (name_same r p) ∙ names ∙ name_same x o)
    ]
  ]
  within_coherent Rule.own_directories x = λ r lt a b k same. elim (w.slots r a) [
    | inl new ↦ elim (w.slots x b) [
      | inl too ↦ (let same = (w.new r new).alone x too in omega (arith, lt, same))
      | inr o ↦ (w.new r new).directory x b o (ap (inode_kind J) same ∙ k) (sym o.inode ∙ sym same)
    ]
    | inr p ↦ elim (w.slots x b) [
      | inl new ↦ (w.new x new).directory r a p k (sym p.inode ∙ same)
      | inr o ↦ coherent Rule.own_directories x r lt p.reached o.reached (sym (w.named x o.reached) ∙ ap (inode_kind J) (sym o.inode) ∙ k) (sym p.inode ∙ same ∙ o.inode)
    ]
  ]
  within_coherent Rule.page_kinds x = record { file = λ lt r k. w.kinds x lt r ∙ k; directory = λ lt r k. w.kinds x lt r ∙ k }
  within_coherent Rule.sizes x = λ r k. (w.files x r k).small
  within_coherent Rule.all_pages x = λ r k. (w.files x r k).full
  within_coherent Rule.own_offsets x = λ h i k lt r file below. (w.files i r file).one h x k lt below
  within_coherent Rule.links x = w.links x

-- with no new slot an inode has no more links
pub old_links : (P : ℕ) (I J : List ℕ) (x n : ℕ) → ((s : ℕ) → IsReachedSlot P J s → OldSlot P I J (λ t. ⊥) s)
    → ((s : ℕ) → IsReachedSlot P I s → inode_kind J (slot_inode P I s) ≡ inode_kind I (slot_inode P I s)) → inode_kind J x ≡ inode_kind I x → HasLinks P I x n → HasLinks P J x n
old_links P I J x n slots named kind links = record {
  file = λ k. at_most 0 n (IsNameOf P I x) (IsNameOf P J x) (λ s name. let o = slots s name.slot in record { slot = o.reached; inode = sym o.inode ∙ name.inode }) (links.file (sym kind ∙ k));
  directory = λ k. at_most 2 n (IsChildOf P I x) (IsChildOf P J x) (λ s child.
      let o = slots s child.slot in
      record { slot = o.reached; owner = sym o.owner ∙ child.owner; directory = sym (named s o.reached) ∙ ap (inode_kind J) (sym o.inode) ∙ child.directory }) (links.directory (sym kind ∙ k));
}

-- A directory takes a new page: nothing is meant by it yet.
use Rattle.std.proofs.Common.{◌≡◌, ◌≢◌, ◌⊎◌, inl, inr, ℕ, ◌-◌, ◌<◌, ◌≤◌, List, length, length-set, refl, sym, ap, subst, ◌∙◌, arith}
use Rattle.std.proofs.lemmas.Bool.{cases_eq}
use Rattle.std.proofs.lemmas.List.{get_or-set_same}
use Rattle.layout.specs.Fields.{word, IsKindOrOffset, inode_links, page_owner, page_kind, page_offset, slot_inode, slot_pointer}
use Rattle.layout.specs.Geometry.{inodes_of, data_pages_of, page_of_slot, inode_word_of, descriptor_word_of, slot_word_of, page_word_of}
use Rattle.layout.proofs.GeometryLaws.{descriptor_word_within}
use Rattle.image_reading.specs.Reading.{IsDirectory, slot_owner, IsHeld, Reached}
use Rattle.image_reading.specs.Soundness.{Rule, IsCoherent, HasLinks}
use Rattle.image_counts.specs.Entries.{IsFreePage}
use Rattle.image_laws.specs.Create.{IsPageMadeWord, MakesEmptyPage, MakesPage, owned}
use Rattle.image_laws.specs.Exempt.{IsExempt}
use Rattle.image_laws.specs.Free.{IsFree, Stores}
use Rattle.image_laws.proofs.Addresses.{descriptor-ne_inode, descriptor-ne_slot, descriptor-ne_page, page-ne_inode, page-ne_slot, descriptor_word-one, word_in_page, word_in_page-lt, slot_word-in_page}
use Rattle.image_laws.proofs.Paths.{reached_pos, reached-le}
use Rattle.image_laws.proofs.Ready.{dec_among, dec_either}
use Rattle.image_laws.proofs.Decide.{dec_eq}
use Rattle.image_laws.proofs.Words.{other_word}

pub dec_page_made : (P j a : ℕ) → Dec (IsPageMadeWord P j a)
dec_page_made P j a = dec_either _ _ (dec_among (page_word_of P j) 512 a) (dec_either _ _ (dec_eq a (descriptor_word_of P j 1)) (dec_eq a (descriptor_word_of P j 2)))

pub not_page_made : (P j a : ℕ) → ((w : ℕ) → w < 512 → a ≢ page_word_of P j w) → ((f : ℕ) → IsKindOrOffset f → a ≢ descriptor_word_of P j f) → IsPageMadeWord P j a → ⊥
not_page_made P j a f g m = elim m [
  | inl (w, lt, e) ↦ f w lt e
  | inr n ↦ elim n [ inl e ↦ g 1 (inl refl) e | inr e ↦ g 2 (inr refl) e ]
]

-- kind and offset stand behind the owner
pub behind_owner : (f : ℕ) → IsKindOrOffset f → (1 ≤ f) × (f < 8)
behind_owner f (inl one) = (omega (arith, one), omega (arith, one))
behind_owner f (inr two) = (omega (arith, two), omega (arith, two))

-- the words of a free page are free
pub free_page_word : (P : ℕ) (W : List ℕ) (j : ℕ) → IsFreePage P W j → (a : ℕ) → IsPageMadeWord P j a → IsFree P W a
free_page_word P W j page a m = elim m [
  | inl (w, lt, e) ↦ subst (IsFree P W) (sym e) (IsFree.page j w page.0 lt page.1)
  | inr n ↦ elim n [
    | inl e ↦ subst (IsFree P W) (sym e) (IsFree.descriptor j 1 page.0 (omega arith) page.1)
    | inr e ↦ subst (IsFree P W) (sym e) (IsFree.descriptor j 2 page.0 (omega arith) page.1)
  ]
]

-- what only reads inodes' links is carried over by equal words
pub links_kept : (P : ℕ) (I J : List ℕ) → IsCoherent P I → ((x : ℕ) → Reached P I x → inode_links J x ≡ inode_links I x) → (x : ℕ) → Reached P I x → HasLinks P I x (inode_links J x)
links_kept P I J coherent same x r = subst (HasLinks P I x) (sym (same x r)) (coherent Rule.links x r)

-- a page of zeros is one whose slots are zero
pub zero_slot : (P : ℕ) (A : List ℕ) (j : ℕ) → ((w : ℕ) → w < 512 → word A (page_word_of P j w) ≡ 0) → (t f : ℕ) → page_of_slot t ≡ j → f < 16 → word A (slot_word_of P t f) ≡ 0
zero_slot P A j zeros t f at lt = ap (word A) (slot_word-in_page P t f) ∙ subst (λ z. word A (page_word_of P z (word_in_page t f)) ≡ 0) (sym at) (zeros (word_in_page t f) (word_in_page-lt t f lt))

pub makes_page : (P : ℕ) (W A : List ℕ) (j : ℕ) → length A ≡ length W → ((w : ℕ) → w < 512 → word A (page_word_of P j w) ≡ 0) → page_kind P A j ≡ 2 → page_offset P A j ≡ 0
    → ((a : ℕ) → (IsPageMadeWord P j a → ⊥) → word A a ≡ word W a) → MakesPage P W A j
unfolding slot_inode slot_pointer
makes_page P W A j size zeros kind offset others = record {
  empty = record {
    size = size;
    numbers = λ s at. zero_slot P A j zeros s 0 at (omega arith);
    pointers = λ s at. zero_slot P A j zeros s 1 at (omega arith);
    kind = kind;
    offset = offset;
    others = others;
  };
  zeros = zeros;
}

-- ---- the page is made

module _ (P : ℕ) (W A : List ℕ) (j : ℕ) (coherent : IsCoherent P W) (page : IsFreePage P W j) (makes : MakesEmptyPage P W A j) where
  pub made_descriptor : (x f : ℕ) → x < data_pages_of P → f < 8 → (x ≢ j) ⊎ (f ≡ 0) → word A (descriptor_word_of P x f) ≡ word W (descriptor_word_of P x f)
  made_descriptor x f lt l8 other = makes.others (descriptor_word_of P x f) (not_page_made P j (descriptor_word_of P x f)
      (λ w l. descriptor-ne_page P x f j w lt l8)
      (λ g is e.
      let (low, high) = behind_owner g is in
      let (same_page, same_field) = descriptor_word-one P x f j g l8 high e in
      elim other [ inl ne ↦ ne same_page | inr z ↦ omega (arith, z, same_field, low) ]))

  pub made_inode : (x f : ℕ) → 1 ≤ x → x ≤ inodes_of P → f < 16 → word A (inode_word_of x f) ≡ word W (inode_word_of x f)
  made_inode x f some most lt = makes.others (inode_word_of x f) (not_page_made P j (inode_word_of x f)
      (λ w l e. page-ne_inode P j w x f some most lt (sym e))
      (λ g is e. descriptor-ne_inode P j g x f some most lt (sym e)))

  pub made_slot : (t f : ℕ) → f < 16 → page_of_slot t ≢ j → word A (slot_word_of P t f) ≡ word W (slot_word_of P t f)
  made_slot t f lt ne = makes.others (slot_word_of P t f) (not_page_made P j (slot_word_of P t f)
      (λ w l e. page-ne_slot P j w t f l lt (λ z. ne (sym z)) (sym e))
      (λ g is e. descriptor-ne_slot P j g t f page.0 (behind_owner g is).1 (sym e)))

  pub made_owner : (x : ℕ) → x < data_pages_of P → page_owner P A x ≡ page_owner P W x
  unfolding page_owner
  made_owner x lt = made_descriptor x 0 lt (omega arith) (inr refl)

  made_links : (x : ℕ) → Reached P W x → inode_links A x ≡ inode_links W x
  unfolding inode_links
  made_links x r = let h = reached_pos P W x r in made_inode x 1 (omega (arith, h)) (reached-le P W coherent x r) (omega arith)

  pub made_stores : Stores P W A
  made_stores = record {
    size = makes.size;
    words = λ a. elim (dec_page_made P j a) [ no n ↦ inl (makes.others a n) | yes m ↦ inr (free_page_word P W j page a m) ];
    owners = λ x lt. inl (made_owner x lt);
    links = links_kept P W A coherent made_links;
  }

-- ---- the page is owned

module _ (P : ℕ) (A : List ℕ) (j d : ℕ) (coherent : IsCoherent P A) (reached : Reached P A d) (directory : IsDirectory A d) (lt_j : j < data_pages_of P) (unowned : page_owner P A j ≡ 0) (kind : page_kind P A j ≡ 2)
    (zero_inode : (t : ℕ) → page_of_slot t ≡ j → slot_inode P A t ≡ 0) (zero_pointer : (t : ℕ) → page_of_slot t ≡ j → slot_pointer P A t ≡ 0) where
  pub in_image : descriptor_word_of P j 0 < length A
  in_image = let below = descriptor_word_within P j 0 ((coherent Rule.head 0).size refl) lt_j (omega arith) in
      let size = (coherent Rule.head 0).whole refl in omega (arith, below, size)

  pub owned_owner : page_owner P (owned P A j d) j ≡ d
  unfolding page_owner word
  owned_owner = get_or-set_same A (descriptor_word_of P j 0) d 0 in_image

  pub owned_descriptor : (x f : ℕ) → f < 8 → (x ≢ j) ⊎ (1 ≤ f) → word (owned P A j d) (descriptor_word_of P x f) ≡ word A (descriptor_word_of P x f)
  owned_descriptor x f l8 other = other_word A (descriptor_word_of P j 0) d (descriptor_word_of P x f) (λ e.
      let (same_page, same_field) = descriptor_word-one P x f j 0 l8 (omega arith) e in
      elim other [ inl ne ↦ ne same_page | inr some ↦ omega (arith, some, same_field) ])

  pub owned_inode : (x f : ℕ) → 1 ≤ x → x ≤ inodes_of P → f < 16 → word (owned P A j d) (inode_word_of x f) ≡ word A (inode_word_of x f)
  owned_inode x f some most lt = other_word A (descriptor_word_of P j 0) d (inode_word_of x f) (λ e. descriptor-ne_inode P j 0 x f some most lt (sym e))

  pub owned_slot : (t f : ℕ) → word (owned P A j d) (slot_word_of P t f) ≡ word A (slot_word_of P t f)
  owned_slot t f = other_word A (descriptor_word_of P j 0) d (slot_word_of P t f) (λ e. descriptor-ne_slot P j 0 t f lt_j (omega arith) (sym e))

  exempt : IsExempt P A (owned P A j d) j d
  unfolding page_kind page_offset slot_inode slot_pointer slot_owner
  exempt = record {
    before = inl unowned;
    after = inr owned_owner;
    same_kind = owned_descriptor j 1 (omega arith) (inr (omega arith));
    same_offset = owned_descriptor j 2 (omega arith) (inr (omega arith));
    file = λ other. absurd (other kind);
    pointers = λ _ t at. (zero_pointer t at, owned_slot t 1 ∙ zero_pointer t at);
    target = λ _ t q at held points.
        let target = (coherent Rule.pointers q).held held (λ z. omega (arith, z, points)) in
        let same : slot_pointer P A q - 1 ≡ t = omega (arith, points) in
        not_held t at (subst (IsHeld P A) same target);
    directory = λ _ _. directory;
    empty = λ _ _ t at. (zero_inode t at, owned_slot t 0 ∙ zero_inode t at);
  }
    where
      not_held : (t : ℕ) → page_of_slot t ≡ j → IsHeld P A t → ⊥
      not_held t at held = held.owned (ap (page_owner P A) at ∙ unowned)

  owned_links : (x : ℕ) → Reached P A x → inode_links (owned P A j d) x ≡ inode_links A x
  unfolding inode_links
  owned_links x r = let h = reached_pos P A x r in owned_inode x 1 (omega (arith, h)) (reached-le P A coherent x r) (omega arith)

  pub owned_stores : Stores P A (owned P A j d)
  unfolding page_owner
  owned_stores = record {
    size = length-set A (descriptor_word_of P j 0) d;
    words = λ a. elim (cases_eq a (descriptor_word_of P j 0)) [
      | inl e ↦ inr (subst (IsFree P A) (sym e) (IsFree.owner j lt_j))
      | inr ne ↦ inl (other_word A (descriptor_word_of P j 0) d a ne)
    ];
    owners = λ x lt. elim (cases_eq x j) [
      | inl e ↦ inr (d, subst (λ z. IsExempt P A (owned P A j d) z d) (sym e) exempt)
      | inr ne ↦ inl (owned_descriptor x 0 (omega arith) (inl ne))
    ];
    links = links_kept P A (owned P A j d) coherent owned_links;
  }

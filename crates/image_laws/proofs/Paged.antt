-- A directory takes a page together with a node or a link: no meaning changes until its name gets a number.
use Rattle.std.proofs.Common.{◌≡◌, ◌≢◌, inl, inr, ℕ, ◌+◌, ◌<◌, ◌≤◌, List, length, refl, sym, subst, ◌∙◌, arith}
use Rattle.std.proofs.lemmas.Bool.{cases_eq}
use Rattle.layout.specs.Fields.{word, IsKindOrOffset, inode_links, page_owner, page_kind, page_offset, slot_inode, slot_pointer}
use Rattle.layout.specs.Geometry.{inodes_of, data_pages_of, page_of_slot, inode_word_of, descriptor_word_of, slot_word_of, page_word_of}
use Rattle.layout.specs.declared.kinds.NodeKind.{NodeKind}
use Rattle.layout.proofs.Widths.{in_inode}
use Rattle.tree_model.specs.PathText.{Route}
use Rattle.image_reading.specs.Reading.{Reached}
use Rattle.image_reading.specs.Soundness.{Rule, IsCoherent, HasLinks}
use Rattle.image_counts.specs.Entries.{IsFreePage}
use Rattle.image_counts.proofs.Paths.{in_range}
use Rattle.image_laws.specs.Create.{IsMadeWord, CanMake, IsPageMadeWord, MakesNamedPage}
use Rattle.image_laws.specs.Free.{IsFree}
use Rattle.image_laws.specs.Link.{IsLinkedWord, CanLink}
use Rattle.image_laws.specs.Taking.{FillsPage, IsNamedPage, MakesPagedNode, MakesPagedLink, PagedNodeLaw, PagedLinkLaw}
use Rattle.image_laws.proofs.Addresses.{descriptor-ne_inode, descriptor-ne_page, descriptor-ne_slot, descriptor_word-one, inode-ne_inode, inode-ne_slot, page-ne_inode, slot_word-in_page, word_in_page, word_in_page-lt}
use Rattle.image_laws.proofs.Linking.{dec_linked, not_linked}
use Rattle.image_laws.proofs.Making.{links_for, links_more}
use Rattle.image_laws.proofs.NewPage.{dec_page_made, not_page_made, behind_owner, free_page_word}
use Rattle.image_laws.proofs.Ready.{dec_made, made_cases, not_made}
use Rattle.image_laws.proofs.Taking.{taking_law}
use Rattle.image_laws.proofs.Words.{slot_words-same}

-- ---- a page with a name

pub named_page : (P : ℕ) (I J : List ℕ) (j s : ℕ) (name : List ℕ) → MakesNamedPage P I J j s name → IsNamedPage P J j s name
named_page P I J j s name makes = record {
  kind = makes.kind;
  offset = makes.offset;
  numbers = makes.numbers;
  pointers = makes.pointers;
  name_is = makes.name_is;
  zeros = makes.zeros;
}

module _ (P : ℕ) (I J : List ℕ) (j s : ℕ) (name : List ℕ) (at : page_of_slot s ≡ j) (words : (w : ℕ) → w < 512 → word J (page_word_of P j w) ≡ word I (page_word_of P j w))
    (descriptor : (f : ℕ) → IsKindOrOffset f → word J (descriptor_word_of P j f) ≡ word I (descriptor_word_of P j f)) (named : IsNamedPage P I j s name) where
  slot_kept : (t f : ℕ) → page_of_slot t ≡ j → f < 16 → word J (slot_word_of P t f) ≡ word I (slot_word_of P t f)
  slot_kept t f here lt =
      let is : slot_word_of P t f ≡ page_word_of P j (word_in_page t f) = subst (λ (z : ℕ). slot_word_of P t f ≡ page_word_of P z (word_in_page t f)) here (slot_word-in_page P t f) in
      subst (λ (a : ℕ). word J a ≡ word I a) (sym is) (words (word_in_page t f) (word_in_page-lt t f lt))

  pub named_page_same : IsNamedPage P J j s name
  unfolding page_kind page_offset slot_inode slot_pointer
  named_page_same = record {
    kind = descriptor 1 (inl refl) ∙ named.kind;
    offset = descriptor 2 (inr refl) ∙ named.offset;
    numbers = λ t here. slot_kept t 0 here (omega arith) ∙ named.numbers t here;
    pointers = λ t here. slot_kept t 1 here (omega arith) ∙ named.pointers t here;
    name_is = slot_words-same P I J s (λ f lt. slot_kept s (2 + f) at (omega arith)) ∙ named.name_is;
    zeros = λ t here ne f lt. slot_kept t f here lt ∙ named.zeros t here ne f lt;
  }

-- the name's words are of the page
free_name : (P : ℕ) (W : List ℕ) (j s : ℕ) → IsFreePage P W j → page_of_slot s ≡ j → (k : ℕ) → k < 14 → IsFree P W (slot_word_of P s (2 + k))
free_name P W j s page at k lt =
    subst (IsFree P W) (sym (slot_word-in_page P s (2 + k))) (subst (λ (z : ℕ). IsFree P W (page_word_of P z (word_in_page s (2 + k)))) (sym at)
    (IsFree.page j (word_in_page s (2 + k)) page.0 (word_in_page-lt s (2 + k) (omega arith)) page.1))

-- ---- words that are stored beside the page's

-- They are free, and none is an owner.
record IsBeside (P : ℕ) (W A : List ℕ) (j : ℕ) (beside : ℕ → Type 0) : Type 0 where
  decided : (a : ℕ) → Dec (beside a)
  free : (a : ℕ) → beside a → IsFree P W a
  no_owner : (x : ℕ) → x < data_pages_of P → beside (descriptor_word_of P x 0) → ⊥
  links : (x : ℕ) → Reached P W x → HasLinks P W x (inode_links A x)
  others : (a : ℕ) → (IsPageMadeWord P j a → ⊥) → (beside a → ⊥) → word A a ≡ word W a

module _ (P : ℕ) (W A : List ℕ) (j s : ℕ) (name : List ℕ) (beside : ℕ → Type 0) (page : IsFreePage P W j) (size : length A ≡ length W) (named : IsNamedPage P A j s name) (stored : IsBeside P W A j beside) where
  owner_kept : (x : ℕ) → x < data_pages_of P → page_owner P A x ≡ page_owner P W x
  unfolding page_owner
  owner_kept x lt = stored.others (descriptor_word_of P x 0)
      (not_page_made P j (descriptor_word_of P x 0)
      (λ w l. descriptor-ne_page P x 0 j w lt (omega arith))
      (λ f is e. let (low, high) = behind_owner f is in let field = (descriptor_word-one P x 0 j f (omega arith) high e).1 in omega (arith, low, field)))
      (stored.no_owner x lt)

  fills : FillsPage P W A j
  fills = record {
    stores = record {
      size = size;
      words = λ a. elim (dec_page_made P j a) [
        | yes m ↦ inr (free_page_word P W j page a m)
        | no n ↦ elim (stored.decided a) [ yes b ↦ inr (stored.free a b) | no o ↦ inl (stored.others a n o) ]
      ];
      owners = λ x lt. inl (owner_kept x lt);
      links = stored.links;
    };
    owners = owner_kept;
    kind = named.kind;
    numbers = named.numbers;
    pointers = named.pointers;
  }

-- ---- a node

module _ (P : ℕ) (W A : List ℕ) (p : Route) (kind : NodeKind) (d j s i : ℕ) (name : List ℕ) (can : CanMake P W p d i name) (page : IsFreePage P W j) (at : page_of_slot s ≡ j) (makes : MakesPagedNode P W A kind d j s i name) where
  coherent : IsCoherent P W
  coherent = can.place.tidy.coherent

  range : (x : ℕ) → Reached P W x → (1 ≤ x) × (x ≤ inodes_of P)
  range x r = in_range P W coherent x r

  i_pos : 1 ≤ i
  i_pos = let two = can.least in omega (arith, two)

  d_reached : Reached P W d
  d_reached = (p, can.place.path)

  links_kept : (x : ℕ) → Reached P W x → x ≢ d → inode_links A x ≡ inode_links W x
  unfolding inode_links
  links_kept x r ne = makes.others (inode_word_of x 1)
      (not_page_made P j (inode_word_of x 1)
      (λ w l e. page-ne_inode P j w x 1 (range x r).0 (range x r).1 (omega arith) (sym e))
      (λ f is e. descriptor-ne_inode P j f x 1 (range x r).0 (range x r).1 (omega arith) (sym e)))
      (not_made P W kind d s i (inode_word_of x 1)
      (λ f lt. inode-ne_inode x 1 i f (range x r).0 i_pos (λ e. can.unreached (subst (Reached P W) e r)) (omega arith) (in_inode W f lt))
      (λ k lt. inode-ne_slot P x 1 s (2 + k) (range x r).0 (range x r).1 (omega arith))
      (inode-ne_inode x 1 d 1 (range x r).0 (range d d_reached).0 ne (omega arith) (omega arith)))

  node_links : (x : ℕ) → Reached P W x → HasLinks P W x (inode_links A x)
  node_links x r = elim (cases_eq x d) [
    | inl e ↦ subst (λ (y : ℕ). HasLinks P W y (inode_links A y)) (sym e) (subst (HasLinks P W d) (sym makes.parent) (links_for kind P W d (inode_links W d) (coherent Rule.links d d_reached)))
    | inr ne ↦ subst (HasLinks P W x) (sym (links_kept x r ne)) (coherent Rule.links x r)
  ]

  free_made : (a : ℕ) → IsMadeWord P W kind d s i a → IsFree P W a
  free_made a m = elim (made_cases P W kind d s i a m) [
    | inl (f, lt, e) ↦ subst (IsFree P W) (sym e) (IsFree.inode i f i_pos can.most (in_inode W f lt) can.unreached)
    | inr n ↦ elim n [
      | inl (k, lt, e) ↦ subst (IsFree P W) (sym e) (free_name P W j s page at k lt)
      | inr e ↦ subst (IsFree P W) (sym e) (IsFree.link d (range d d_reached).0 (range d d_reached).1)
    ]
  ]

  pub paged_node_fills : FillsPage P W A j
  paged_node_fills = fills P W A j s name (IsMadeWord P W kind d s i) page makes.size makes.page (record {
    decided = dec_made P W kind d s i;
    free = free_made;
    no_owner = λ x lt. not_made P W kind d s i (descriptor_word_of P x 0)
        (λ f l. descriptor-ne_inode P x 0 i f i_pos can.most (in_inode W f l))
        (λ k l. descriptor-ne_slot P x 0 s (2 + k) lt (omega arith))
        (descriptor-ne_inode P x 0 d 1 (range d d_reached).0 (range d d_reached).1 (omega arith));
    links = node_links;
    others = makes.others;
  })

pub paged_node_law : PagedNodeLaw
paged_node_law P W A p kind d j s i name can page at makes =
    taking_law P W A p d j can.place.tidy.coherent can.place.path can.place.directory page (paged_node_fills P W A p kind d j s i name can page at makes)

-- ---- a link

module _ (P : ℕ) (W A : List ℕ) (p : Route) (d j s i : ℕ) (name : List ℕ) (can : CanLink P W p d i name) (page : IsFreePage P W j) (at : page_of_slot s ≡ j) (makes : MakesPagedLink P W A j s i name) where
  file_coherent : IsCoherent P W
  file_coherent = can.place.tidy.coherent

  file_range : (x : ℕ) → Reached P W x → (1 ≤ x) × (x ≤ inodes_of P)
  file_range x r = in_range P W file_coherent x r

  other_links : (x : ℕ) → Reached P W x → x ≢ i → inode_links A x ≡ inode_links W x
  unfolding inode_links
  other_links x r ne = makes.others (inode_word_of x 1)
      (not_page_made P j (inode_word_of x 1)
      (λ w l e. page-ne_inode P j w x 1 (file_range x r).0 (file_range x r).1 (omega arith) (sym e))
      (λ f is e. descriptor-ne_inode P j f x 1 (file_range x r).0 (file_range x r).1 (omega arith) (sym e)))
      (not_linked P s i (inode_word_of x 1)
      (λ k lt. inode-ne_slot P x 1 s (2 + k) (file_range x r).0 (file_range x r).1 (omega arith))
      (inode-ne_inode x 1 i 1 (file_range x r).0 (file_range i can.file.reached).0 ne (omega arith) (omega arith)))

  file_links : (x : ℕ) → Reached P W x → HasLinks P W x (inode_links A x)
  file_links x r = elim (cases_eq x i) [
    | inl e ↦ subst (λ (y : ℕ). HasLinks P W y (inode_links A y)) (sym e) (subst (HasLinks P W i) (sym makes.links) (links_more P W i (inode_links W i) (file_coherent Rule.links i can.file.reached)))
    | inr ne ↦ subst (HasLinks P W x) (sym (other_links x r ne)) (file_coherent Rule.links x r)
  ]

  free_linked : (a : ℕ) → IsLinkedWord P s i a → IsFree P W a
  free_linked a m = elim m [
    | inl (k, lt, e) ↦ subst (IsFree P W) (sym e) (free_name P W j s page at k lt)
    | inr e ↦ subst (IsFree P W) (sym e) (IsFree.link i (file_range i can.file.reached).0 (file_range i can.file.reached).1)
  ]

  pub paged_link_fills : FillsPage P W A j
  paged_link_fills = fills P W A j s name (IsLinkedWord P s i) page makes.size makes.page (record {
    decided = dec_linked P s i;
    free = free_linked;
    no_owner = λ x lt. not_linked P s i (descriptor_word_of P x 0)
        (λ k l. descriptor-ne_slot P x 0 s (2 + k) lt (omega arith))
        (descriptor-ne_inode P x 0 i 1 (file_range i can.file.reached).0 (file_range i can.file.reached).1 (omega arith));
    links = file_links;
    others = makes.others;
  })

pub paged_link_law : PagedLinkLaw
paged_link_law P W A p d j s i name can page at makes =
    taking_law P W A p d j can.place.tidy.coherent can.place.path can.place.directory page (paged_link_fills P W A p d j s i name can page at makes)

-- A page that is taken together with a node or a link leaves the words of one that was taken first.
use Rattle.std.proofs.Common.{◌≡◌, ◌≢◌, inl, inr, ℕ, zero, suc, ◌+◌, ◌-◌, ◌*◌, ◌/◌, ◌%◌, ◌<◌, ◌≤◌, List, length, length-set, set, refl, sym, ap, subst, ◌∙◌, arith}
use Rattle.std.proofs.lemmas.Bool.{cases_eq}
use Rattle.std.proofs.lemmas.List.{get_or-set_same, get_or-set_other}
use Rattle.layout.specs.Fields.{word, inode_words, inode_links, page_kind, page_offset, slot_inode, slot_pointer, slot_words}
use Rattle.layout.specs.Geometry.{IsVolumeSize, inodes_of, page_of_slot, inode_word_of, descriptor_word_of, slot_word_of, page_word_of}
use Rattle.layout.specs.declared.kinds.NodeKind.{NodeKind}
use Rattle.layout.specs.declared.kinds.NodeKind.TheVariants.{File, Directory}
use Rattle.layout.proofs.GeometryLaws.{page_of_entry, page_word_within, descriptor_word_within}
use Rattle.layout.proofs.Widths.{in_inode, same_inode_words}
use Rattle.image_reading.specs.Soundness.{Rule, IsCoherent}
use Rattle.image_counts.specs.Entries.{IsFreePage}
use Rattle.image_laws.specs.Create.{IsAmong, IsMadeWord, parent_links, IsPageMadeWord, MakesPage, owned}
use Rattle.image_laws.specs.Taking.{IsNamedPage, SameEndLaw, SameLinkEndLaw}
use Rattle.image_laws.proofs.Addresses.{head-ne_descriptor, head-ne_page, descriptor-ne_inode, descriptor-ne_page, descriptor-ne_slot, descriptor_word-one, page-ne_inode}
use Rattle.image_laws.proofs.NewPage.{dec_page_made, not_page_made, makes_page}
use Rattle.image_laws.proofs.Paths.{reached_pos, reached-le}
use Rattle.image_laws.proofs.Words.{slot_words-same, other_word}

-- ---- a page of zeros

-- the first n words of page j are zero
zeroed : ℕ → List ℕ → ℕ → ℕ → List ℕ
zeroed P W j zero = W
zeroed P W j (suc n) = set (zeroed P W j n) (page_word_of P j n) 0

zeroed_size : (P : ℕ) (W : List ℕ) (j n : ℕ) → length (zeroed P W j n) ≡ length W
unfolding zeroed
zeroed_size P W j zero = refl
zeroed_size P W j (suc n) = length-set (zeroed P W j n) (page_word_of P j n) 0 ∙ zeroed_size P W j n

zeroed_others : (P : ℕ) (W : List ℕ) (j n a : ℕ) → ((w : ℕ) → w < n → a ≢ page_word_of P j w) → word (zeroed P W j n) a ≡ word W a
unfolding zeroed word
zeroed_others P W j zero a other = refl
zeroed_others P W j (suc n) a other = get_or-set_other (zeroed P W j n) (page_word_of P j n) a 0 0 (other n (omega arith)) ∙ zeroed_others P W j n a (λ w lt. other w (omega arith))

other_page_word : (P j w v : ℕ) → w ≢ v → page_word_of P j w ≢ page_word_of P j v
unfolding page_word_of
other_page_word P j w v ne e = omega arith

zeroed_page : (P : ℕ) (W : List ℕ) (j n : ℕ) → ((w : ℕ) → w < n → page_word_of P j w < length W) → (w : ℕ) → w < n → word (zeroed P W j n) (page_word_of P j w) ≡ 0
unfolding zeroed word
zeroed_page P W j zero inside w lt = omega arith
zeroed_page P W j (suc n) inside w lt = elim (cases_eq w n) [
  | inl e ↦ subst (λ (v : ℕ). word (set (zeroed P W j n) (page_word_of P j n) 0) (page_word_of P j v) ≡ 0) (sym e)
      (get_or-set_same (zeroed P W j n) (page_word_of P j n) 0 0 (let lt_here = inside n (omega arith) in let size = zeroed_size P W j n in omega (arith, lt_here, size)))
  | inr ne ↦ get_or-set_other (zeroed P W j n) (page_word_of P j n) (page_word_of P j w) 0 0 (other_page_word P j w n ne) ∙ zeroed_page P W j n (λ v l. inside v (omega arith)) w (omega arith)
]

-- words W with page j made one of free slots
blank_page : ℕ → List ℕ → ℕ → List ℕ
blank_page P W j = set (set (zeroed P W j 512) (descriptor_word_of P j 1) 2) (descriptor_word_of P j 2) 0

module _ (P : ℕ) (W : List ℕ) (j : ℕ) (volume : IsVolumeSize P) (whole : length W ≡ 512 * P) (page : IsFreePage P W j) where
  abbrev kinded : List ℕ
  kinded = set (zeroed P W j 512) (descriptor_word_of P j 1) 2

  kinded_size : length kinded ≡ length W
  kinded_size = length-set (zeroed P W j 512) (descriptor_word_of P j 1) 2 ∙ zeroed_size P W j 512

  blank_size : length (blank_page P W j) ≡ length W
  unfolding blank_page
  blank_size = length-set kinded (descriptor_word_of P j 2) 0 ∙ kinded_size

  beyond : (a : ℕ) → a ≢ descriptor_word_of P j 1 → a ≢ descriptor_word_of P j 2 → word (blank_page P W j) a ≡ word (zeroed P W j 512) a
  unfolding blank_page word
  beyond a ne1 ne2 = get_or-set_other kinded (descriptor_word_of P j 2) a 0 0 ne2 ∙ get_or-set_other (zeroed P W j 512) (descriptor_word_of P j 1) a 2 0 ne1

  blank_others : (a : ℕ) → (IsPageMadeWord P j a → ⊥) → word (blank_page P W j) a ≡ word W a
  blank_others a other = beyond a (λ e. other (inr (inl e))) (λ e. other (inr (inr e))) ∙ zeroed_others P W j 512 a (λ w lt e. other (inl (w, lt, e)))

  blank_zeros : (w : ℕ) → w < 512 → word (blank_page P W j) (page_word_of P j w) ≡ 0
  blank_zeros w lt = beyond (page_word_of P j w)
      (λ e. descriptor-ne_page P j 1 j w page.0 (omega arith) (sym e))
      (λ e. descriptor-ne_page P j 2 j w page.0 (omega arith) (sym e))
      ∙ zeroed_page P W j 512 (λ v l. let below = page_word_within P j v page.0 l in omega (arith, below, whole)) w lt

  blank_kind : page_kind P (blank_page P W j) j ≡ 2
  unfolding blank_page page_kind word
  blank_kind =
      get_or-set_other kinded (descriptor_word_of P j 2) (descriptor_word_of P j 1) 0 0 (λ e. let field = (descriptor_word-one P j 1 j 2 (omega arith) (omega arith) e).1 in omega (arith, field))
      ∙ get_or-set_same (zeroed P W j 512) (descriptor_word_of P j 1) 2 0
      (let below = descriptor_word_within P j 1 volume page.0 (omega arith) in let size = zeroed_size P W j 512 in omega (arith, below, size, whole))

  blank_offset : page_offset P (blank_page P W j) j ≡ 0
  unfolding blank_page page_offset word
  blank_offset = get_or-set_same kinded (descriptor_word_of P j 2) 0 0
      (let below = descriptor_word_within P j 2 volume page.0 (omega arith) in let size = kinded_size in omega (arith, below, size, whole))

  blank_made : MakesPage P W (blank_page P W j) j
  blank_made = makes_page P W (blank_page P W j) j blank_size blank_zeros blank_kind blank_offset blank_others

-- ---- with a name in it

-- a word of a page is a slot's
slot_at : ℕ → ℕ → ℕ
slot_at j w = 32 * j + w / 16

slot_at_page : (j w : ℕ) → w < 512 → page_of_slot (slot_at j w) ≡ j
unfolding slot_at
slot_at_page j w lt = page_of_entry j (w / 16) (omega arith)

page_word-in_slot : (P j w : ℕ) → page_word_of P j w ≡ slot_word_of P (slot_at j w) (w % 16)
unfolding slot_at page_word_of slot_word_of
page_word-in_slot P j w = omega arith

module _ (P : ℕ) (W A : List ℕ) (d j s : ℕ) (name : List ℕ) (volume : IsVolumeSize P) (whole : length W ≡ 512 * P) (page : IsFreePage P W j) (size : length A ≡ length W) (named : IsNamedPage P A j s name) where
  abbrev B : List ℕ
  B = blank_page P W j

  -- all but the name's words
  slot_zero : (t f : ℕ) → page_of_slot t ≡ j → f < 16 → ((k : ℕ) → k < 14 → slot_word_of P t f ≢ slot_word_of P s (2 + k)) → word A (slot_word_of P t f) ≡ 0
  unfolding slot_inode slot_pointer
  slot_zero t f here lt other = elim (cases_eq t s) [
    | inr ne ↦ named.zeros t here ne f lt
    | inl e ↦ elim (cases_eq f 0) [
      | inl first ↦ ap (λ (g : ℕ). word A (slot_word_of P t g)) first ∙ named.numbers t here
      | inr some ↦ elim (cases_eq f 1) [
        | inl second ↦ ap (λ (g : ℕ). word A (slot_word_of P t g)) second ∙ named.pointers t here
        | inr more ↦
            let there : f ≡ 2 + (f - 2) = omega arith in
            absurd (other (f - 2) (omega arith) (ap (λ (u : ℕ). slot_word_of P u f) e ∙ ap (slot_word_of P s) there))
      ]
    ]
  ]

  page_same : (a : ℕ) → IsPageMadeWord P j a → ((k : ℕ) → k < 14 → a ≢ slot_word_of P s (2 + k)) → word A a ≡ word B a
  unfolding page_kind page_offset
  page_same a made other = elim made [
    | inl (w, lt, e) ↦
        let in_slot = page_word-in_slot P j w in
        let none : word A (slot_word_of P (slot_at j w) (w % 16)) ≡ 0 = slot_zero (slot_at j w) (w % 16) (slot_at_page j w lt) (omega arith) (λ k l same. other k l (e ∙ in_slot ∙ same)) in
        ap (word A) (e ∙ in_slot) ∙ none ∙ sym (ap (word B) e ∙ blank_zeros P W j volume whole page w lt)
    | inr n ↦ elim n [
      | inl e ↦ ap (word A) e ∙ named.kind ∙ sym (ap (word B) e ∙ blank_kind P W j volume whole page)
      | inr e ↦ ap (word A) e ∙ named.offset ∙ sym (ap (word B) e ∙ blank_offset P W j volume whole page)
    ]
  ]

  owner_within : descriptor_word_of P j 0 < length W
  owner_within = let below = descriptor_word_within P j 0 volume page.0 (omega arith) in omega (arith, below, whole)

  owned_here : (I : List ℕ) → length I ≡ length W → word (owned P I j d) (descriptor_word_of P j 0) ≡ d
  unfolding word
  owned_here I same = get_or-set_same I (descriptor_word_of P j 0) d 0 (let within = owner_within in omega (arith, within, same))

  owned_size : length (owned P A j d) ≡ length (owned P B j d)
  owned_size = length-set A (descriptor_word_of P j 0) d ∙ size ∙ sym (length-set B (descriptor_word_of P j 0) d ∙ blank_size P W j volume whole page)

  -- with the owner all words but the name's agree, where they agree beside the page
  end_same : (a : ℕ) → ((k : ℕ) → k < 14 → a ≢ slot_word_of P s (2 + k)) → ((IsPageMadeWord P j a → ⊥) → word A a ≡ word W a) → word (owned P A j d) a ≡ word (owned P B j d) a
  end_same a other beside = elim (cases_eq a (descriptor_word_of P j 0)) [
    | inl e ↦ ap (word (owned P A j d)) e ∙ owned_here A size ∙ sym (ap (word (owned P B j d)) e ∙ owned_here B (blank_size P W j volume whole page))
    | inr ne ↦
        let same : word A a ≡ word B a = elim (dec_page_made P j a) [
          | yes made ↦ page_same a made other
          | no n ↦ beside n ∙ sym (blank_others P W j volume whole page a n)
        ] in
        other_word A (descriptor_word_of P j 0) d a ne ∙ same ∙ sym (other_word B (descriptor_word_of P j 0) d a ne)
  ]

  name_end : slot_words P (owned P A j d) s ≡ name
  name_end = slot_words-same P A (owned P A j d) s (λ f lt. other_word A (descriptor_word_of P j 0) d (slot_word_of P s (2 + f)) (λ e. descriptor-ne_slot P j 0 s (2 + f) page.0 (omega arith) (sym e))) ∙ named.name_is

  inode_end : (x f : ℕ) → 1 ≤ x → x ≤ inodes_of P → f < 16 → word (owned P A j d) (inode_word_of x f) ≡ word A (inode_word_of x f)
  inode_end x f some most lt = other_word A (descriptor_word_of P j 0) d (inode_word_of x f) (λ e. descriptor-ne_inode P j 0 x f some most lt (sym e))

  links_end : (x : ℕ) → 1 ≤ x → x ≤ inodes_of P → inode_links (owned P A j d) x ≡ inode_links A x
  unfolding inode_links
  links_end x some most = inode_end x 1 some most (omega arith)

  -- the page alone changes no inode
  links_blank : (x : ℕ) → 1 ≤ x → x ≤ inodes_of P → inode_links (owned P B j d) x ≡ inode_links W x
  unfolding inode_links
  links_blank x some most = other_word B (descriptor_word_of P j 0) d (inode_word_of x 1) (λ e. descriptor-ne_inode P j 0 x 1 some most (omega arith) (sym e))
      ∙ blank_others P W j volume whole page (inode_word_of x 1) (not_page_made P j (inode_word_of x 1)
      (λ w l e. page-ne_inode P j w x 1 some most (omega arith) (sym e))
      (λ f is e. descriptor-ne_inode P j f x 1 some most (omega arith) (sym e)))

  -- and no word of the superblock
  width_blank : inode_words (owned P B j d) ≡ inode_words W
  width_blank = same_inode_words W (owned P B j d) (other_word B (descriptor_word_of P j 0) d 1 (head-ne_descriptor P j 0 1 (omega arith))
      ∙ blank_others P W j volume whole page 1 (not_page_made P j 1 (λ w l. head-ne_page P j w 1 (omega arith)) (λ f is. head-ne_descriptor P j f 1 (omega arith))))

-- ---- the laws

name_made : (P : ℕ) (I : List ℕ) (kind : NodeKind) (d s i a : ℕ) → IsAmong (λ k. slot_word_of P s (2 + k)) 14 a → IsMadeWord P I kind d s i a
name_made P I Directory d s i a h = inr (inl h)
name_made P I File d s i a h = inr h

-- where the widths are equal, the same words are made
made_too : (P : ℕ) (I J : List ℕ) (kind : NodeKind) (d s i a : ℕ) → inode_words J ≡ inode_words I → IsMadeWord P I kind d s i a → IsMadeWord P J kind d s i a
made_too P I J Directory d s i a width m = elim m [ inl (f, lt, e) ↦ inl (f, subst (λ n. f < n) (sym width) lt, e) | inr other ↦ inr other ]
made_too P I J File d s i a width m = elim m [ inl (f, lt, e) ↦ inl (f, subst (λ n. f < n) (sym width) lt, e) | inr other ↦ inr other ]

pub same_end_law : SameEndLaw
same_end_law P W A p kind d j s i name can page at makes =
    let coherent : IsCoherent P W = can.place.tidy.coherent in
    let volume : IsVolumeSize P = (coherent Rule.head 0).size refl in
    let whole : length W ≡ 512 * P = (coherent Rule.head 0).whole refl in
    let d_pos : 1 ≤ d = (let h = reached_pos P W d (p, can.place.path) in omega (arith, h)) in
    let d_most : d ≤ inodes_of P = reached-le P W coherent d (p, can.place.path) in
    let i_pos : 1 ≤ i = (let two = can.least in omega (arith, two)) in
    let width : inode_words (owned P (blank_page P W j) j d) ≡ inode_words W = width_blank P W A d j s name volume whole page makes.size makes.page in
    record {
      blank = blank_page P W j;
      page = blank_made P W j volume whole page;
      made = record {
        size = owned_size P W A d j s name volume whole page makes.size makes.page;
        inode = λ f lt. let read = subst (λ n. f < n) width lt in
            inode_end P W A d j s name volume whole page makes.size makes.page i f i_pos can.most (in_inode W f read) ∙ makes.inode f read;
        words = name_end P W A d j s name volume whole page makes.size makes.page;
        parent = links_end P W A d j s name volume whole page makes.size makes.page d d_pos d_most ∙ makes.parent
            ∙ sym (ap (parent_links kind) (links_blank P W A d j s name volume whole page makes.size makes.page d d_pos d_most));
        others = λ a none. end_same P W A d j s name volume whole page makes.size makes.page a
            (λ k lt e. none (name_made P (owned P (blank_page P W j) j d) kind d s i a (k, lt, e)))
            (λ n. makes.others a n (λ m. none (made_too P W (owned P (blank_page P W j) j d) kind d s i a width m)));
      };
    }

pub same_link_end_law : SameLinkEndLaw
same_link_end_law P W A p d j s i name can page at makes =
    let coherent : IsCoherent P W = can.place.tidy.coherent in
    let volume : IsVolumeSize P = (coherent Rule.head 0).size refl in
    let whole : length W ≡ 512 * P = (coherent Rule.head 0).whole refl in
    let i_pos : 1 ≤ i = (let h = reached_pos P W i can.file.reached in omega (arith, h)) in
    let i_most : i ≤ inodes_of P = reached-le P W coherent i can.file.reached in
    record {
      blank = blank_page P W j;
      page = blank_made P W j volume whole page;
      made = record {
        size = owned_size P W A d j s name volume whole page makes.size makes.page;
        links = links_end P W A d j s name volume whole page makes.size makes.page i i_pos i_most ∙ makes.links
            ∙ sym (ap (λ (n : ℕ). n + 1) (links_blank P W A d j s name volume whole page makes.size makes.page i i_pos i_most));
        words = name_end P W A d j s name volume whole page makes.size makes.page;
        others = λ a none. end_same P W A d j s name volume whole page makes.size makes.page a
            (λ k lt e. none (inl (k, lt, e))) (λ n. makes.others a n none);
      };
    }

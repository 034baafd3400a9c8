-- The words of an image in which a file is cut.
use Rattle.std.proofs.Common.{◌≡◌, ◌≢◌, ◌⊎◌, inl, inr, ℕ, ◌<◌, ◌≤◌, List, length, refl, sym, ap, subst, ◌∙◌, arith}
use Rattle.std.proofs.lemmas.Bool.{cases_eq, cases_lt}
use Rattle.std.proofs.lemmas.List.{get_or-set_same, get_or-set_other}
use Rattle.layout.specs.Fields.{word, descriptor_words, inode_size, page_owner, page_offset}
use Rattle.layout.specs.Geometry.{inodes_of, data_pages_of, inode_word_of, descriptor_word_of, slot_word_of}
use Rattle.layout.proofs.GeometryLaws.{inode_word_within}
use Rattle.layout.proofs.Widths.{in_descriptor, same_descriptor_words}
use Rattle.image_reading.specs.Reading.{pages_of_size}
use Rattle.image_reading.specs.Soundness.{Rule}
use Rattle.image_laws.specs.Resize.{CanResize, HasResized}
use Rattle.image_laws.proofs.Addresses.{head-ne_inode, head-ne_descriptor, descriptor-ne_inode, descriptor-ne_slot, inode-ne_inode, inode-ne_field, inode-ne_slot, descriptor_word-one}
use Rattle.image_laws.proofs.Decide.{dec_eq}
use Rattle.image_laws.proofs.Given as lost
use Rattle.image_laws.proofs.Paths.{reached_pos, reached-le}
use Rattle.image_laws.proofs.Resize.{OnlySize, only_size}
use Rattle.image_laws.proofs.Resizes.{resize_law}
use Rattle.content_laws.specs.Cut.{CanCut, IsPastCut, Cuts}
use Rattle.content_laws.specs.Growth.{sized}

-- fewer bytes take no more pages
pub fewer_pages : (y z k : ℕ) → z ≤ y → k < pages_of_size z → k < pages_of_size y
unfolding pages_of_size
fewer_pages y z k le lt = omega arith

module _ (P : ℕ) (W : List ℕ) (i z : ℕ) (can : CanCut P W i z) where
  pub pos : 1 ≤ i
  pos = let some = reached_pos P W i can.reached in omega (arith, some)

  pub most : i ≤ inodes_of P
  most = reached-le P W can.tidy.coherent i can.reached

  below : (k : ℕ) → k < pages_of_size z → k < pages_of_size (inode_size W i)
  below k lt = fewer_pages (inode_size W i) z k (let less = can.less in omega (arith, less)) lt

  -- ---- the size

  pub can_resize : CanResize P W i z
  can_resize = record {
    coherent = can.tidy.coherent;
    reached = can.reached;
    file = can.file;
    small = let old = can.tidy.coherent Rule.sizes i can.reached can.file in let less = can.less in omega (arith, old, less);
    full = λ k lt. can.tidy.coherent Rule.all_pages i can.reached can.file k (below k lt);
    one = λ g j k lt short. can.tidy.coherent Rule.own_offsets j g i k lt can.reached can.file (below k short);
  }

  pub resized_file : HasResized P W (sized W i z) i z
  resized_file = resize_law P W i z can_resize

  pub only : OnlySize P W (sized W i z) i
  only = only_size P W i z pos most

  pub inside : inode_word_of i 2 < length W
  inside = let within = inode_word_within P i 2 ((can.tidy.coherent Rule.head 0).size refl) pos most (omega arith) in
      let size = (can.tidy.coherent Rule.head 0).whole refl in omega (arith, within, size)

  pub size_is : inode_size (sized W i z) i ≡ z
  unfolding inode_size word
  size_is = get_or-set_same W (inode_word_of i 2) z 0 inside

  sized_word : (a : ℕ) → a ≢ inode_word_of i 2 → word (sized W i z) a ≡ word W a
  unfolding word
  sized_word a ne = get_or-set_other W (inode_word_of i 2) a z 0 ne

  -- ---- the pages past the end

  pub dec_past : (j : ℕ) → Dec (IsPastCut P W i z j)
  dec_past j = elim (cases_lt j (data_pages_of P)) [
    | inr ge ↦ no (λ g. let lt = g.in_range in omega (arith, lt))
    | inl lt ↦ elim (dec_eq (page_owner P W j) i) [
      | no n ↦ no (λ g. n g.owner)
      | yes e ↦ elim (cases_lt (page_offset P W j) (pages_of_size z)) [
        | inl short ↦ no (λ g. let past = g.past in omega (arith, past))
        | inr past ↦ yes (record { in_range = lt; owner = e; past = past })
      ]
    ]
  ]

  module _ (J K : List ℕ) (h : Cuts P W J K i z) where
    -- ---- from the size to the owners

    give_descriptor : (x f : ℕ) → f < 8 → (f ≢ 0) ⊎ (IsPastCut P W i z x → ⊥) → word J (descriptor_word_of P x f) ≡ word (sized W i z) (descriptor_word_of P x f)
    give_descriptor x f l8 other = lost.give_descriptor P (sized W i z) J (IsPastCut P W i z) h.gives x f l8 other

    give_inode : (x f : ℕ) → 1 ≤ x → x ≤ inodes_of P → f < 16 → word J (inode_word_of x f) ≡ word (sized W i z) (inode_word_of x f)
    give_inode x f some high lt = lost.give_inode P (sized W i z) J (IsPastCut P W i z) h.gives x f some high lt

    give_slot : (t f : ℕ) → word J (slot_word_of P t f) ≡ word (sized W i z) (slot_word_of P t f)
    give_slot = lost.give_slot P (sized W i z) J (IsPastCut P W i z) h.gives (λ j g. g.in_range)

    give_head : (a : ℕ) → a < 512 → word J a ≡ word (sized W i z) a
    give_head a low = h.gives.others a (λ j g. head-ne_descriptor P j 0 a low)

    -- ---- from the owners to the kinds and offsets

    rest_head : (a : ℕ) → a < 512 → word K a ≡ word J a
    rest_head a low = h.clears.others a (λ j k g least high. head-ne_descriptor P j k a low)

    rest_descriptor : (x f : ℕ) → f < 8 → (f ≡ 0) ⊎ (IsPastCut P W i z x → ⊥) → word K (descriptor_word_of P x f) ≡ word J (descriptor_word_of P x f)
    rest_descriptor x f l8 other = h.clears.others (descriptor_word_of P x f) (λ j k g low high e.
        let (same_page, same_field) = descriptor_word-one P x f j k l8 (in_descriptor J k high) e in
        elim other [ inl zero ↦ omega (arith, zero, same_field, low) | inr none ↦ none (subst (IsPastCut P W i z) (sym same_page) g) ])

    rest_inode : (x f : ℕ) → 1 ≤ x → x ≤ inodes_of P → f < 16 → word K (inode_word_of x f) ≡ word J (inode_word_of x f)
    rest_inode x f some high lt = h.clears.others (inode_word_of x f) (λ j k g low top e. descriptor-ne_inode P j k x f some high lt (sym e))

    rest_slot : (t f : ℕ) → word K (slot_word_of P t f) ≡ word J (slot_word_of P t f)
    rest_slot t f = h.clears.others (slot_word_of P t f) (λ j k g low high e. descriptor-ne_slot P j k t f g.in_range (in_descriptor J k high) (sym e))

    -- ---- from the first to the last

    pub head_same : (a : ℕ) → a < 512 → word K a ≡ word W a
    head_same a low = rest_head a low ∙ give_head a low ∙ sized_word a (head-ne_inode i 2 a low)

    pub descriptor_same : (x f : ℕ) → f < 8 → (IsPastCut P W i z x → ⊥) → word K (descriptor_word_of P x f) ≡ word W (descriptor_word_of P x f)
    descriptor_same x f l8 none =
        rest_descriptor x f l8 (inr none) ∙ give_descriptor x f l8 (inr none) ∙ sized_word (descriptor_word_of P x f) (descriptor-ne_inode P x f i 2 pos most (omega arith))

    pub past_zero : (x f : ℕ) → IsPastCut P W i z x → f < descriptor_words K → word K (descriptor_word_of P x f) ≡ 0
    unfolding page_owner
    past_zero x f g lt = elim (cases_eq f 0) [
      | inl e ↦ ap (λ k. word K (descriptor_word_of P x k)) e ∙ rest_descriptor x 0 (omega arith) (inl refl) ∙ h.gives.owners x g
      | inr ne ↦ h.clears.rests x f g (omega (arith, ne)) (subst (λ n. f < n) (same_descriptor_words J K (rest_head 1 (omega arith))) lt)
    ]

    pub inode_same : (x f : ℕ) → 1 ≤ x → x ≤ inodes_of P → f < 16 → (x ≢ i) ⊎ (f ≢ 2) → word K (inode_word_of x f) ≡ word W (inode_word_of x f)
    inode_same x f some high lt other = rest_inode x f some high lt ∙ give_inode x f some high lt ∙ sized_word (inode_word_of x f) (elim other [
      | inl ne ↦ inode-ne_inode x f i 2 some pos ne lt (omega arith)
      | inr ne ↦ inode-ne_field x f i 2 lt (omega arith) ne
    ])

    pub size_end : inode_size K i ≡ z
    unfolding inode_size
    size_end = rest_inode i 2 pos most (omega arith) ∙ give_inode i 2 pos most (omega arith) ∙ size_is

    pub slot_same : (t f : ℕ) → word K (slot_word_of P t f) ≡ word W (slot_word_of P t f)
    slot_same t f = rest_slot t f ∙ give_slot t f ∙ sized_word (slot_word_of P t f) (λ e. inode-ne_slot P i 2 t f pos most (omega arith) (sym e))

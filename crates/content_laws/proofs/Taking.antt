-- Growth's second interval: the new pages' owners.
use Rattle.std.proofs.Common.{◌≡◌, ◌≢◌, ◌⊎◌, inl, inr, ℕ, ◌+◌, ◌-◌, ◌/◌, ◌%◌, ◌^◌, ◌<◌, ◌≤◌, List, Some, slice_get, slice_index, sym, ap, subst, ◌∙◌, arith}
use Rattle.std.specs.Prelude.{Contains}
use Rattle.std.proofs.lemmas.Bool.{cases_lt}
use Rattle.std.proofs.lemmas.Option.{slice_get-get_or}
use Rattle.layout.specs.Fields.{word, inode_kind, inode_links, inode_size, page_owner, page_kind, page_offset, page_byte}
use Rattle.layout.specs.Geometry.{inodes_of, data_pages_of, inode_word_of, descriptor_word_of, page_word_of, slot_word_of}
use Rattle.tree_model.proofs.TreeKept.{same_some}
use Rattle.image_reading.specs.Reading.{Reached, IsPageOf, pages_of_size}
use Rattle.image_reading.specs.Soundness.{Rule, IsCoherent}
use Rattle.image_reading.proofs.FilePages.{page_from_place}
use Rattle.image_laws.specs.Exempt.{IsExempt}
use Rattle.image_laws.specs.Frame.{AllSameBytes, SameMeaning}
use Rattle.image_laws.specs.Quiet.{IsMix, IsQuiet}
use Rattle.image_laws.specs.Resize.{CanResize}
use Rattle.image_laws.specs.Words.{IsUsed}
use Rattle.image_laws.proofs.Addresses.{head-ne_descriptor, descriptor-ne_inode, descriptor-ne_slot, descriptor-ne_page, descriptor_word-one}
use Rattle.image_laws.proofs.Free.{mix_itself}
use Rattle.image_laws.proofs.NewPage.{links_kept}
use Rattle.image_laws.proofs.Paths.{reached_pos, reached-le}
use Rattle.image_laws.proofs.Quiet.{mix_law}
use Rattle.content_laws.specs.Growth.{CanGrow, FillsFile, TakesPages}
use Rattle.content_laws.proofs.Filling.{fill_stores, filled, fill_inode, fill_owner, fill_descriptor}
use Rattle.content_laws.proofs.KeptFile.{tidy_below}
use Rattle.content_laws.proofs.Lists.{contains_at, place_of, contains_or_not}
use Rattle.content_laws.proofs.Meaning.{forth}
use Rattle.content_laws.proofs.Quiet.{head_same}

-- a used word is no owner
used_not_owner : (P : ℕ) (I : List ℕ) → IsCoherent P I → (j : ℕ) → j < data_pages_of P → {a : ℕ} → IsUsed P I a → a ≡ descriptor_word_of P j 0 → ⊥
used_not_owner P I coherent j lt (IsUsed.head a l) e = head-ne_descriptor P j 0 a (omega (arith, l)) e
used_not_owner P I coherent j lt (IsUsed.kind h l owned) e = let y = (descriptor_word-one P h 1 j 0 (omega arith) (omega arith) e).1 in omega (arith, y)
used_not_owner P I coherent j lt (IsUsed.offset h l owned) e = let y = (descriptor_word-one P h 2 j 0 (omega arith) (omega arith) e).1 in omega (arith, y)
used_not_owner P I coherent j lt (IsUsed.slot_inode s held) e = descriptor-ne_slot P j 0 s 0 lt (omega arith) (sym e)
used_not_owner P I coherent j lt (IsUsed.pointer s held) e = descriptor-ne_slot P j 0 s 1 lt (omega arith) (sym e)
used_not_owner P I coherent j lt (IsUsed.name s f l r) e = descriptor-ne_slot P j 0 s (2 + f) lt (omega arith) (sym e)
used_not_owner P I coherent j lt (IsUsed.node_kind x r) e = let some = reached_pos P I x r in descriptor-ne_inode P j 0 x 0 (omega (arith, some)) (reached-le P I coherent x r) (omega arith) (sym e)
used_not_owner P I coherent j lt (IsUsed.size x r) e = let some = reached_pos P I x r in descriptor-ne_inode P j 0 x 2 (omega (arith, some)) (reached-le P I coherent x r) (omega arith) (sym e)
used_not_owner P I coherent j lt (IsUsed.own x r) e = let some = reached_pos P I x r in descriptor-ne_inode P j 0 x 3 (omega (arith, some)) (reached-le P I coherent x r) (omega arith) (sym e)

module _ (P : ℕ) (W A B : List ℕ) (i z offset : ℕ) (bytes pages : List ℕ) (can : CanGrow P W i z offset bytes pages) (fills : FillsFile P W A i offset bytes pages) (takes : TakesPages P A B i pages) where
  range : (j : ℕ) → Contains pages j → j < data_pages_of P
  range j c = (can.free j c).0

  coherent : IsCoherent P A
  coherent = (filled P W A i z offset bytes pages can fills).shape.coherent

  reached : Reached P A i
  reached = forth P W A (filled P W A i z offset bytes pages can fills).shape.names i can.reached

  -- ---- the words of B

  take_inode : (x f : ℕ) → 1 ≤ x → x ≤ inodes_of P → f < 16 → word B (inode_word_of x f) ≡ word A (inode_word_of x f)
  take_inode x f p m lt = takes.others (inode_word_of x f) (λ j c e. descriptor-ne_inode P j 0 x f p m lt (sym e))

  pub taken_slot : (s f : ℕ) → word B (slot_word_of P s f) ≡ word A (slot_word_of P s f)
  taken_slot s f = takes.others (slot_word_of P s f) (λ j c e. descriptor-ne_slot P j 0 s f (range j c) (omega arith) (sym e))

  take_page : (h w : ℕ) → word B (page_word_of P h w) ≡ word A (page_word_of P h w)
  take_page h w = takes.others (page_word_of P h w) (λ j c e. descriptor-ne_page P j 0 h w (range j c) (omega arith) (sym e))

  take_descriptor : (j f : ℕ) → f < 8 → (f ≢ 0) ⊎ ¬ Contains pages j → word B (descriptor_word_of P j f) ≡ word A (descriptor_word_of P j f)
  take_descriptor j f l8 why = takes.others (descriptor_word_of P j f) (λ h c e.
      let (x, y) = descriptor_word-one P j f h 0 l8 (omega arith) e in
      elim why [ inl field ↦ field y | inr none ↦ none (subst (Contains pages) (sym x) c) ])

  pub take_byte : (j o : ℕ) → page_byte P B j o ≡ page_byte P A j o
  unfolding page_byte
  take_byte j o = ap (λ x. x / 256 ^ (o % 8) % 256) (take_page j (o / 8))

  -- ---- the interval changes no meaning

  kind_after : (j : ℕ) → page_kind P B j ≡ page_kind P A j
  unfolding page_kind
  kind_after j = take_descriptor j 1 (omega arith) (inl (λ e. omega (arith, e)))

  offset_after : (j : ℕ) → page_offset P B j ≡ page_offset P A j
  unfolding page_offset
  offset_after j = take_descriptor j 2 (omega arith) (inl (λ e. omega (arith, e)))

  owner_after : (j : ℕ) → ¬ Contains pages j → page_owner P B j ≡ page_owner P A j
  unfolding page_owner
  owner_after j none = take_descriptor j 0 (omega arith) (inr none)

  exempt : (j : ℕ) → Contains pages j → IsExempt P A B j i
  exempt j c =
      let (k, lt, at) = place_of pages j c in
      let one = fills.kinds k j at in
      let behind = fills.offsets k j at in
      let same = (filled P W A i z offset bytes pages can fills).shape.inodes i can.reached in
      let end : pages_of_size (inode_size A i) ≤ page_offset P A j = (let size = ap pages_of_size same.size in omega (arith, size, behind)) in
      record {
        before = inl (fill_owner P W A i z offset bytes pages can fills j (range j c) ∙ (can.free j c).1);
        after = inr (takes.owners j c);
        same_kind = kind_after j;
        same_offset = offset_after j;
        file = λ other r. (same.kind ∙ can.file, end, one);
        pointers = λ two. absurd (omega (arith, one, two));
        target = λ two. absurd (omega (arith, one, two));
        directory = λ two. absurd (omega (arith, one, two));
        empty = λ two. absurd (omega (arith, one, two));
      }

  take_quiet : IsQuiet P A B
  unfolding inode_links
  take_quiet = record {
    size = takes.size;
    words = λ a u. takes.others a (λ j c e. used_not_owner P A coherent j (range j c) u e);
    owners = λ j lt. elim (contains_or_not pages j) [ inl c ↦ inr (i, exempt j c) | inr none ↦ inl (owner_after j none) ];
    links = links_kept P A B coherent (λ x r. let some = reached_pos P A x r in take_inode x 1 (omega (arith, some)) (reached-le P A coherent x r) (omega arith));
  }

  same_bytes : AllSameBytes P A B
  same_bytes x r file = record { bytes = λ o j lt g. take_byte j (o % 4096) }

  pub take_mix : (M : List ℕ) → IsMix A B M → SameMeaning P A M
  take_mix M mix = mix_law P A B M coherent take_quiet same_bytes mix

  pub taken : SameMeaning P A B
  taken = take_mix B (mix_itself A B takes.size)

  -- ---- words of W

  pub taken_head : (a : ℕ) → a < 512 → word B a ≡ word W a
  taken_head a low = takes.others a (λ j c. head-ne_descriptor P j 0 a low) ∙ head_same P W A (fill_stores P W A i z offset bytes pages can fills) a low

  pub taken_inode : (x f : ℕ) → 1 ≤ x → x ≤ inodes_of P → f < 16 → word B (inode_word_of x f) ≡ word W (inode_word_of x f)
  taken_inode x f p m lt = take_inode x f p m lt ∙ fill_inode P W A i z offset bytes pages can fills x f p m lt

  pub taken_descriptor : (j f : ℕ) → j < data_pages_of P → f < 8 → ¬ Contains pages j → word B (descriptor_word_of P j f) ≡ word W (descriptor_word_of P j f)
  taken_descriptor j f lt l8 none = take_descriptor j f l8 (inr none) ∙ fill_descriptor P W A i z offset bytes pages can fills j f lt l8 none

  pub pos : 1 ≤ i
  pos = let some = reached_pos P W i can.reached in omega (arith, some)

  pub most : i ≤ inodes_of P
  most = reached-le P W can.tidy.coherent i can.reached

  pub kind_taken : inode_kind B i ≡ inode_kind W i
  unfolding inode_kind
  kind_taken = taken_inode i 0 pos most (omega arith)

  -- ---- the pages of the file

  -- a new page, with its place, or an old one
  pub new_page : (k j : ℕ) → slice_get pages k ≡ Some j → IsPageOf P B i (pages_of_size (inode_size W i) + k) j
  new_page k j at = let c = contains_at pages k j at in
      page_from_place (record { in_range = range j c; owner = takes.owners j c; kind = kind_after j ∙ fills.kinds k j at; offset = offset_after j ∙ fills.offsets k j at })

  old_page : (j : ℕ) → page_owner P W j ≡ i → ¬ Contains pages j
  old_page j owner c = let free = (can.free j c).1 in let p = pos in omega (arith, owner, free, p)

  fields : (j : ℕ) → j < data_pages_of P → ¬ Contains pages j → (page_owner P B j ≡ page_owner P W j) × (page_kind P B j ≡ page_kind P W j) × (page_offset P B j ≡ page_offset P W j)
  unfolding page_owner page_kind page_offset
  fields j lt none = (taken_descriptor j 0 lt (omega arith) none, taken_descriptor j 1 lt (omega arith) none, taken_descriptor j 2 lt (omega arith) none)

  pub kept_page : (k j : ℕ) → IsPageOf P W i k j → IsPageOf P B i k j
  kept_page k j g = let (o, n, f) = fields j g.in_range (old_page j g.owner) in
      page_from_place (record { in_range = g.in_range; owner = o ∙ g.owner; kind = n ∙ g.kind; offset = f ∙ g.offset })

  pub record IsNewPage (k j : ℕ) : Type 0 where
    pub place : ℕ
    pub at : slice_get pages place ≡ Some j
    pub stands : k ≡ pages_of_size (inode_size W i) + place

  pub which_page : (k j : ℕ) → IsPageOf P B i k j → IsNewPage k j ⊎ IsPageOf P W i k j
  which_page k j g = elim (contains_or_not pages j) [
    | inl c ↦ (let (m, lt, at) = place_of pages j c in
        inl (record { place = m; at = at; stands = sym g.offset ∙ (new_page m j at).offset }))
    | inr none ↦ (let (o, n, f) = fields j g.in_range none in
        inr (page_from_place (record { in_range = g.in_range; owner = sym o ∙ g.owner; kind = sym n ∙ g.kind; offset = sym f ∙ g.offset })))
  ]

  -- in W each page of the file is below its end
  pub old_below : (k j : ℕ) → IsPageOf P W i k j → k < pages_of_size (inode_size W i)
  old_below k j g = subst (λ n. n < pages_of_size (inode_size W i)) g.offset (tidy_below P W i can.tidy can.reached can.file j g.in_range g.owner)

  -- ---- the size may be stored

  full : (k : ℕ) → k < pages_of_size z → (j : ℕ) × IsPageOf P B i k j
  full k lt = elim (cases_lt k (pages_of_size (inode_size W i))) [
    | inl below ↦ (let (j, g) = can.tidy.coherent Rule.all_pages i can.reached can.file k below in (j, kept_page k j g))
    | inr ge ↦
        let count = can.count in
        let j = slice_index pages (k - pages_of_size (inode_size W i)) in
        let e : pages_of_size (inode_size W i) + (k - pages_of_size (inode_size W i)) ≡ k = omega (arith, ge) in
        (j, subst (λ n. IsPageOf P B i n j) e (new_page (k - pages_of_size (inode_size W i)) j (slice_get-get_or pages (k - pages_of_size (inode_size W i)) 0 (omega (arith, count, lt, ge)))))
  ]

  pub can_resize : CanResize P B i z
  can_resize = record {
    coherent = taken.coherent;
    reached = forth P A B taken.names i reached;
    file = kind_taken ∙ can.file;
    small = can.small;
    full = full;
    one = one;
  }
    where
      same_place : (h j : ℕ) (m n : ℕ) → slice_get pages m ≡ Some h → slice_get pages n ≡ Some j → m ≡ n → h ≡ j
      same_place h j m n a b e = same_some h j (sym a ∙ ap (slice_get pages) e ∙ b)

      one : (h j k : ℕ) → h < j → k < pages_of_size z → IsPageOf P B i k h → IsPageOf P B i k j → ⊥
      one h j k lt below f g = elim (which_page k h f) [
        | inl new ↦ elim (which_page k j g) [
          | inl other ↦ (let e = same_place h j new.place other.place new.at other.at (let x = new.stands in let y = other.stands in omega (arith, x, y)) in omega (arith, e, lt))
          | inr old ↦ (let x = new.stands in let y = old_below k j old in omega (arith, x, y))
        ]
        | inr old ↦ elim (which_page k j g) [
          | inl new ↦ (let x = new.stands in let y = old_below k h old in omega (arith, x, y))
          | inr other ↦ can.tidy.coherent Rule.own_offsets j h i k lt can.reached can.file (old_below k h old) old other
        ]
      ]

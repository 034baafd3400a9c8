-- Descriptors that stay, but of the pages that are named: owners, kinds, offsets and held slots stay with them.
use Rattle.std.proofs.Common.{◌≡◌, ◌↔◌, inl, inr, ℕ, ◌<◌, List, sym, ap, subst, ◌∙◌, arith}
use Rattle.layout.specs.Fields.{word, descriptor_words, inode_kind, inode_size, page_owner, page_kind, page_offset}
use Rattle.layout.specs.Geometry.{data_pages_of, page_of_slot, descriptor_word_of}
use Rattle.layout.proofs.GeometryLaws.{page_of_slot_below, slot_below}
use Rattle.layout.proofs.Widths.{descriptor_field_read, same_descriptor_words}
use Rattle.image_reading.specs.Reading.{slot_owner, IsHeld, Reached, IsRoomOf, IsPageOf, pages_of_size}
use Rattle.image_reading.specs.Repairs.{IsKeptFilePage, IsKept, IsLitterPage}
use Rattle.image_reading.proofs.FilePages.{page_from_place}

-- the slots of a page are held together
pub owner_with : (P : ℕ) (I : List ℕ) (s t : ℕ) → page_of_slot t ≡ page_of_slot s → slot_owner P I t ≡ slot_owner P I s
unfolding slot_owner
owner_with P I s t at = ap (page_owner P I) at

pub held_with : (P : ℕ) (I : List ℕ) (s t : ℕ) → page_of_slot t ≡ page_of_slot s → IsHeld P I s → IsHeld P I t
held_with P I s t at held = record {
  in_range = slot_below P t (subst (λ j. j < data_pages_of P) (sym at) (page_of_slot_below P s held.in_range));
  kind = ap (page_kind P I) at ∙ held.kind;
  owned = λ z. held.owned (sym (owner_with P I s t at) ∙ z);
}

pub record KeepsPages (P : ℕ) (A K : List ℕ) (Page : ℕ → Type 0) : Type 0 where
  pub owner : (j : ℕ) → j < data_pages_of P → ¬ Page j → page_owner P K j ≡ page_owner P A j
  pub kind : (j : ℕ) → j < data_pages_of P → ¬ Page j → page_kind P K j ≡ page_kind P A j
  pub offset : (j : ℕ) → j < data_pages_of P → ¬ Page j → page_offset P K j ≡ page_offset P A j

-- the words of descriptors stay
abbrev pub KeepsDescriptors : ℕ → List ℕ → List ℕ → (ℕ → Type 0) → Type 0
KeepsDescriptors P A K Page = (j f : ℕ) → j < data_pages_of P → f < descriptor_words A → ¬ Page j → word K (descriptor_word_of P j f) ≡ word A (descriptor_word_of P j f)

pub by_words : (P : ℕ) (A K : List ℕ) (Page : ℕ → Type 0) → KeepsDescriptors P A K Page → KeepsPages P A K Page
unfolding page_owner page_kind page_offset
by_words P A K Page same = record {
  owner = λ j lt. same j 0 lt (descriptor_field_read A 0 (omega arith));
  kind = λ j lt. same j 1 lt (descriptor_field_read A 1 (omega arith));
  offset = λ j lt. same j 2 lt (descriptor_field_read A 2 (omega arith));
}

module _ {P : ℕ} {A K : List ℕ} {Page : ℕ → Type 0} (keeps : KeepsPages P A K Page) where
  pub held_owner_same : (t : ℕ) → IsHeld P A t → ¬ Page (page_of_slot t) → slot_owner P K t ≡ slot_owner P A t
  unfolding slot_owner
  held_owner_same t held none = keeps.owner (page_of_slot t) (page_of_slot_below P t held.in_range) none

  pub held_forth : (t : ℕ) → ¬ Page (page_of_slot t) → IsHeld P A t → IsHeld P K t
  held_forth t none held = record {
    in_range = held.in_range;
    kind = keeps.kind (page_of_slot t) (page_of_slot_below P t held.in_range) none ∙ held.kind;
    owned = λ z. held.owned (sym (held_owner_same t held none) ∙ z);
  }

  pub held_back : (t : ℕ) → ¬ Page (page_of_slot t) → IsHeld P K t → IsHeld P A t
  unfolding slot_owner
  held_back t none held =
      let lt = page_of_slot_below P t held.in_range in
      record { in_range = held.in_range; kind = sym (keeps.kind (page_of_slot t) lt none) ∙ held.kind; owned = λ z. held.owned (keeps.owner (page_of_slot t) lt none ∙ z) }

  pub page_same : (x k j : ℕ) → ¬ Page j → IsPageOf P K x k j ↔ IsPageOf P A x k j
  page_same x k j none = (
    (λ g. page_from_place (record {
      in_range = g.in_range;
      owner = sym (keeps.owner j g.in_range none) ∙ g.owner;
      kind = sym (keeps.kind j g.in_range none) ∙ g.kind;
      offset = sym (keeps.offset j g.in_range none) ∙ g.offset;
    })),
    (λ g. page_from_place (record {
      in_range = g.in_range;
      owner = keeps.owner j g.in_range none ∙ g.owner;
      kind = keeps.kind j g.in_range none ∙ g.kind;
      offset = keeps.offset j g.in_range none ∙ g.offset;
    })),
  )

-- Descriptors of other pages stay, and the kinds of reached inodes. These pages keep owners that are reached, places below the ends of their files, and names.
module _ (P : ℕ) (A K : List ℕ) (Page : ℕ → Type 0) (words : KeepsDescriptors P A K Page) (version : word K 1 ≡ word A 1) (kinds : (x : ℕ) → Reached P A x → Reached P K x → inode_kind K x ≡ inode_kind A x)
    (owners : (j : ℕ) → j < data_pages_of P → ¬ Page j → Reached P A (page_owner P A j) → Reached P K (page_owner P A j))
    (below : (j : ℕ) → ¬ Page j → IsKeptFilePage P A j → page_offset P A j < pages_of_size (inode_size K (page_owner P A j)))
    (rooms : (j : ℕ) → j < data_pages_of P → ¬ Page j → IsRoomOf P A (page_owner P A j) j → IsRoomOf P K (page_owner P A j) j) where
  keeps : KeepsPages P A K Page
  keeps = by_words P A K Page words

  kept_file : (j : ℕ) → ¬ Page j → IsKeptFilePage P A j → IsKeptFilePage P K j
  kept_file j none kept =
      let o = keeps.owner j kept.in_range none in
      let r = owners j kept.in_range none kept.owner in
      record {
        in_range = kept.in_range;
        owner = subst (Reached P K) (sym o) r;
        file = ap (inode_kind K) o ∙ kinds (page_owner P A j) kept.owner r ∙ kept.file;
        below = subst (λ k. k < pages_of_size (inode_size K (page_owner P K j))) (sym (keeps.offset j kept.in_range none))
            (subst (λ x. page_offset P A j < pages_of_size (inode_size K x)) (sym o) (below j none kept));
      }

  kept_page : (j : ℕ) → j < data_pages_of P → ¬ Page j → IsKept P A j → IsKept P K j
  kept_page j lt none kept = elim kept [
    | inl file ↦ inl (kept_file j none file)
    | inr room ↦ inr (subst (λ x. IsRoomOf P K x j) (sym (keeps.owner j lt none)) (rooms j lt none room))
  ]

  pub litter_page : (j : ℕ) → ¬ Page j → IsLitterPage P K j → IsLitterPage P A j
  litter_page j none l =
      let (f, lt, nonzero) = l.nonzero in
      let read = subst (λ n. f < n) (same_descriptor_words A K version) lt in
      record { in_range = l.in_range; free = λ kept. l.free (kept_page j l.in_range none kept); nonzero = (f, read, λ z. nonzero (words j f l.in_range read none ∙ z)) }

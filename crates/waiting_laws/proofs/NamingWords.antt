-- Words that a step doesn't store to stay: those of another page's descriptor, of another inode, and of a slot in another page.
use Rattle.std.proofs.Common.{◌≡◌, ◌≢◌, ◌↔◌, ℕ, ◌<◌, ◌≤◌, List, [], ◌∷◌, inl, inr, refl, sym, subst, ◌∙◌, arith}
use Rattle.layout.specs.Geometry.{inodes_of, data_pages_of, page_of_slot, inode_word_of, descriptor_word_of}
use Rattle.layout.specs.Fields.{word, inode_words, descriptor_words, inode_kind, inode_links, page_owner, page_kind, page_offset}
use Rattle.layout.proofs.Widths.{in_inode, in_descriptor, descriptor_field_read, inode_words_written}
use Rattle.image_reading.specs.Counts.{IsIn}
use Rattle.image_reading.specs.Litter.{IsInode}
use Rattle.image_reading.specs.Reading.{slot_owner}
use Rattle.image_counts.specs.Entries.{IsUnusedPage}
use Rattle.image_laws.proofs.Addresses.{descriptor-ne_inode, descriptor-ne_page, descriptor-ne_slot, descriptor_word-one}
use Rattle.weave_laws.specs.Beside.{IsWordOf, slot, page, descriptor, inode, StoresIn, AreInVolume, AreApart, KeepsSlot, Keeps}
use Rattle.weave_laws.proofs.Disjoint.{disjoint_law}

-- a field that is read behind a step is one before it
pub read_before : (I J : List ℕ) (f : ℕ) → f < inode_words J → f < inode_words I
read_before I J f lt = let was = inode_words_written I in let now = inode_words_written J in omega (arith, lt, was, now)

module _ {P : ℕ} {I J slots pages inodes : List ℕ} (range : AreInVolume P pages inodes) (stores : StoresIn P I J slots pages inodes) where
  -- ---- of another page

  not_descriptor : (k g a : ℕ) → k < data_pages_of P → g < descriptor_words I → ¬ IsIn k pages → IsWordOf P I slots pages inodes a → a ≢ descriptor_word_of P k g
  not_descriptor k g _ lt few out (slot s f among below) e = descriptor-ne_slot P k g s f lt (in_descriptor I g few) (sym e)
  not_descriptor k g _ lt few out (page j w among below) e = descriptor-ne_page P k g j w lt (in_descriptor I g few) (sym e)
  not_descriptor k g _ lt few out (descriptor j f among below) e = out (subst (λ x. IsIn x pages) (descriptor_word-one P j f k g (in_descriptor I f below) (in_descriptor I g few) e).0 among)
  not_descriptor k g _ lt few out (inode i f among below) e = let in_table = range.of_inodes i among in descriptor-ne_inode P k g i f in_table.from_one in_table.in_range (in_inode I f below) (sym e)

  descriptor_stays : (k f : ℕ) → k < data_pages_of P → f < descriptor_words I → ¬ IsIn k pages → word J (descriptor_word_of P k f) ≡ word I (descriptor_word_of P k f)
  descriptor_stays k f lt few out = stores.others (descriptor_word_of P k f) (λ of. not_descriptor k f (descriptor_word_of P k f) lt few out of refl)

  pub owner_stays : (k : ℕ) → k < data_pages_of P → ¬ IsIn k pages → page_owner P J k ≡ page_owner P I k
  unfolding page_owner
  owner_stays k lt out = descriptor_stays k 0 lt (descriptor_field_read I 0 (omega arith)) out

  kind_stays : (k : ℕ) → k < data_pages_of P → ¬ IsIn k pages → page_kind P J k ≡ page_kind P I k
  unfolding page_kind
  kind_stays k lt out = descriptor_stays k 1 lt (descriptor_field_read I 1 (omega arith)) out

  pub offset_stays : (k : ℕ) → k < data_pages_of P → ¬ IsIn k pages → page_offset P J k ≡ page_offset P I k
  unfolding page_offset
  offset_stays k lt out = descriptor_stays k 2 lt (descriptor_field_read I 2 (omega arith)) out

  pub unused_stays : (k : ℕ) → k < data_pages_of P → ¬ IsIn k pages → IsUnusedPage P I k ↔ IsUnusedPage P J k
  unused_stays k lt out =
      let owner = owner_stays k lt out in
      let kind = kind_stays k lt out in
      ((λ (free, none). (owner ∙ free, kind ∙ none)), (λ (free, none). (sym owner ∙ free, sym kind ∙ none)))

  -- ---- of another inode

  inode_kept : (x : ℕ) → 1 ≤ x → x ≤ inodes_of P → ¬ IsIn x inodes → Keeps P I J [] [] (x ∷ [])
  inode_kept x least most out = disjoint_law P I J slots pages inodes [] [] (x ∷ []) range
      (record { of_pages = λ j none. absurd none; of_inodes = λ i among. elim among [ inl is ↦ subst (IsInode P) (sym is) (record { from_one = least; in_range = most }) | inr none ↦ absurd none ] })
      (record {
        of_slots = λ s among none. none;
        of_pages = λ j among none. none;
        of_inodes = λ i among other. elim other [ inl is ↦ out (subst (λ y. IsIn y inodes) is among) | inr none ↦ none ];
        no_slot = λ s among none. none;
        no_other_slot = λ s none. absurd none;
      }) stores

  pub inode_stays : (x f : ℕ) → 1 ≤ x → x ≤ inodes_of P → f < inode_words I → ¬ IsIn x inodes → word J (inode_word_of x f) ≡ word I (inode_word_of x f)
  inode_stays x f least most few out = (inode_kept x least most out).words (inode_word_of x f) (inode x f (inl refl) few)

  pub inode_kind_stays : (x : ℕ) → 1 ≤ x → x ≤ inodes_of P → ¬ IsIn x inodes → inode_kind J x ≡ inode_kind I x
  inode_kind_stays x least most out = ((inode_kept x least most out).of_inodes x (inl refl)).kind

  pub links_stay : (x : ℕ) → 1 ≤ x → x ≤ inodes_of P → ¬ IsIn x inodes → inode_links J x ≡ inode_links I x
  links_stay x least most out = ((inode_kept x least most out).of_inodes x (inl refl)).links

  -- ---- of another slot

  pub slot_kept : (t : ℕ) → ¬ IsIn t slots → ¬ IsIn (page_of_slot t) pages → KeepsSlot P I J t
  slot_kept t out apart = (disjoint_law P I J slots pages inodes (t ∷ []) [] [] range none_in beside stores).of_slots t (inl (inl refl))
    where
      none_in : AreInVolume P [] []
      none_in = record { of_pages = λ j none. absurd none; of_inodes = λ i none. absurd none }

      beside : AreApart slots pages inodes (t ∷ []) [] []
      beside = record {
        of_slots = λ s among other. elim other [ inl is ↦ out (subst (λ x. IsIn x slots) is among) | inr none ↦ none ];
        of_pages = λ j among none. none;
        of_inodes = λ i among none. none;
        no_slot = λ s among none. none;
        no_other_slot = λ s other among. elim other [ inl is ↦ apart (subst (λ x. IsIn (page_of_slot x) pages) is among) | inr none ↦ none ];
      }

  pub slot_owner_stays : (t : ℕ) → page_of_slot t < data_pages_of P → ¬ IsIn (page_of_slot t) pages → slot_owner P J t ≡ slot_owner P I t
  unfolding slot_owner
  slot_owner_stays t lt out = owner_stays (page_of_slot t) lt out

-- New pages of a file are filled, and its own bytes may change: the new pages are left.
use Rattle.std.proofs.Common.{◌≡◌, ◌≢◌, ◌⊎◌, inl, inr, ℕ, suc, ◌+◌, ◌<◌, List, [], ◌∷◌, ◌++◌, Some, slice_get, refl, sym, subst, ◌∙◌, arith}
use Rattle.std.specs.Prelude.{Contains}
use Rattle.layout.specs.Fields.{inode_size, page_owner, page_kind, page_offset}
use Rattle.layout.specs.Geometry.{data_pages_of, page_of_slot, descriptor_word_of}
use Rattle.layout.proofs.Widths.{in_inode, in_descriptor, descriptor_field_read}
use Rattle.image_reading.specs.Counts.{IsIn, IsDistinct, IsListOf}
use Rattle.image_reading.specs.Reading.{Reached, pages_of_size}
use Rattle.image_reading.specs.Repairs.{IsLitterPage}
use Rattle.image_reading.specs.Residue.{Residue, IsTidyBeside}
use Rattle.image_counts.proofs.Distinct.{in_either}
use Rattle.image_laws.specs.Frame.{SameShape}
use Rattle.image_laws.proofs.Addresses.{descriptor-ne_page, descriptor_word-one}
use Rattle.image_laws.proofs.Paths.{reached_pos}
use Rattle.content_laws.specs.Growth.{IsFillWord, FillsFile}
use Rattle.content_laws.specs.Mix.{StoresContent}
use Rattle.content_laws.proofs.Lists.{place_of}
use Rattle.content_laws.proofs.Quiet as quiet
use Rattle.weave_laws.specs.Bytes.{MayFill}
use Rattle.weave_laws.specs.Sizing.{FilledLaw}
use Rattle.weave_laws.proofs.BytesFilled as filled
use Rattle.weave_laws.proofs.Contained.{in_contained, contained_in, contained_or_not}
use Rattle.weave_laws.proofs.FreeBeside.{unused_tidy}
use Rattle.weave_laws.proofs.Listed.{listed_after}
use Rattle.weave_laws.proofs.Sized as after
use Rattle.weave_laws.proofs.Sized.{ChangesFile}

-- numbers whose offsets follow one another are distinct
distinct_by : (xs : List ℕ) (offset : ℕ → ℕ) (n : ℕ) → ((k j : ℕ) → slice_get xs k ≡ Some j → offset j ≡ n + k) → IsDistinct xs
distinct_by [] offset n at = tt
distinct_by (x ∷ xs) offset n at = (
  (λ among.
      let (k, lt, is) = place_of xs x (in_contained x xs among) in
      let first = at 0 x refl in
      let later = at (suc k) x is in
      omega (arith, first, later)),
  distinct_by xs offset (n + 1) (λ k j is. let same = at (suc k) j is in omega (arith, same)),
)

module _ (P : ℕ) (I J : List ℕ) (i offset : ℕ) (bytes pages : List ℕ) (others : Residue) (may : MayFill P I i pages) (fills : FillsFile P I J i offset bytes pages) (tidy : IsTidyBeside P I others) where
  shape : SameShape P I J
  shape = filled.shape P I J i offset bytes pages may fills

  stores : StoresContent P I J
  stores = filled.stores P I J i offset bytes pages may fills

  not_filled : (j f : ℕ) → j < data_pages_of P → f < 8 → ¬ Contains pages j → {a : ℕ} → IsFillWord P I i pages a → a ≡ descriptor_word_of P j f → ⊥
  not_filled j f lt l8 none (IsFillWord.old k h w page l) e = descriptor-ne_page P j f h w lt l8 (sym e)
  not_filled j f lt l8 none (IsFillWord.new h w is l) e = descriptor-ne_page P j f h w lt l8 (sym e)
  not_filled j f lt l8 none (IsFillWord.descriptor h g is which) e = none (subst (Contains pages) (descriptor_word-one P h g j f (omega (arith, which)) l8 e).0 is)

  kind_after : (j : ℕ) → Contains pages j → page_kind P J j ≡ 1
  kind_after j is = let (k, lt, at) = place_of pages j is in fills.kinds k j at

  abbrev change : ChangesFile P I J i (Contains pages)
  change = record {
    before = may.coherent;
    after = shape.coherent;
    file = may.reached;
    names = shape.names;
    version = quiet.head_same P I J stores 1 (omega arith);
    descriptors = λ j f lt read none. fills.others (descriptor_word_of P j f) (λ is. not_filled j f lt (in_descriptor I f read) none is refl);
    unheld = λ t is held. (let zero = (may.unused (page_of_slot t) is).1.1 in let two = held.kind in omega (arith, zero, two));
    unheld_after = λ t is held. (let one = kind_after (page_of_slot t) is in let two = held.kind in omega (arith, one, two));
    slots = λ t f held lt. quiet.slot_same P I J stores t f lt held;
    inodes = λ x f some most lt why. quiet.inode_same P I J stores x f some most (in_inode I f lt);
  }

  -- ---- pages

  unowned : (j : ℕ) → Contains pages j → page_owner P J j ≡ 0
  unfolding page_owner
  unowned j is = quiet.descriptor_same P I J stores j 0 (may.unused j is).0 (omega arith) (inr refl) ∙ (may.unused j is).1.0

  no_owner : (j : ℕ) → Contains pages j → ¬ Reached P J (page_owner P J j)
  no_owner j is r = reached_pos P J (page_owner P J j) r (unowned j is)

  some_kind : (j : ℕ) → Contains pages j → page_kind P J j ≢ 0
  some_kind j is z = let one = kind_after j is in omega (arith, one, z)

  left_then : (j : ℕ) → Contains pages j → IsLitterPage P J j
  unfolding page_kind
  left_then j is = record {
    in_range = (may.unused j is).0;
    free = λ kept. elim kept [ inl file ↦ no_owner j is file.owner | inr room ↦ no_owner j is room.reached ];
    nonzero = (1, descriptor_field_read J 1 (omega arith), some_kind j is);
  }

  not_before : (j : ℕ) → Contains pages j → ¬ IsLitterPage P I j
  not_before j is = unused_tidy P I j others tidy (may.unused j is).1

  distinct : IsDistinct pages
  distinct = distinct_by pages (page_offset P J) (pages_of_size (inode_size I i)) fills.offsets

  pages_after : IsListOf (IsLitterPage P J) (pages ++ others.pages)
  pages_after = listed_after (IsLitterPage P I) (IsLitterPage P J) [] pages others.pages distinct
      (λ j among other. not_before j (in_contained j pages among) ((tidy.of_pages.each j).0 other))
      (λ j. (
        (λ l. elim (contained_or_not pages j) [
          | inl is ↦ inl (contained_in j pages is)
          | inr none ↦ inr ((after.page_same change (λ x r. (shape.inodes x r).size) j none).1 l, λ none. none)
        ]),
        (λ either. elim either [
          | inl among ↦ left_then j (in_contained j pages among)
          | inr had ↦ (after.page_same change (λ x r. (shape.inodes x r).size) j (λ is. not_before j is had.0)).0 had.0
        ]),
      ))
      tidy.of_pages

  mark_after : (j : ℕ) → IsIn j (pages ++ others.pages) → (page_owner P J j ≢ 0) ⊎ (page_kind P J j ≢ 0)
  mark_after j among = elim (in_either j pages others.pages among) [
    | inl own ↦ inr (some_kind j (in_contained j pages own))
    | inr other ↦
        let l = (tidy.of_pages.each j).0 other in
        after.mark_kept change j (λ is. not_before j is l) l.in_range (tidy.marks j other)
  ]

pub filled_law : FilledLaw
filled_law P I J i offset bytes pages others may fills tidy =
    after.tidy_after (change P I J i offset bytes pages others may fills tidy) others.pages (pages ++ others.pages) others tidy
    (pages_after P I J i offset bytes pages others may fills tidy) (mark_after P I J i offset bytes pages others may fills tidy)

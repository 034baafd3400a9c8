-- The size of a file changes, by one word: it rises over pages that are the file's already, or falls.
use Rattle.std.proofs.Common.{◌≡◌, ◌≢◌, ◌⊎◌, inl, inr, ℕ, ◌/◌, ◌%◌, ◌<◌, List, length, slice_index, refl, sym, ap, ◌∙◌, arith}
use Rattle.std.proofs.lemmas.Bool.{cases_lt}
use Rattle.std.proofs.lemmas.List.{get_or_past}
use Rattle.layout.specs.Fields.{inode_size, page_byte}
use Rattle.layout.specs.Geometry.{inode_word_of}
use Rattle.layout.proofs.GeometryLaws.{inode_word_within}
use Rattle.tree_model.specs.Step.{with_bytes, overwritten, resized}
use Rattle.tree_model.specs.Tree.{Tree, File, bytes_of}
use Rattle.tree_model.proofs.TreeLaws.{node_at-with_bytes_here}
use Rattle.image_reading.specs.Reading.{IsPageOf, IsContent, pages_of_size, Reads}
use Rattle.image_reading.specs.Soundness.{Rule, IsCoherent}
use Rattle.image_counts.proofs.Paths.{in_range}
use Rattle.image_laws.specs.Quiet.{IsMix}
use Rattle.image_laws.specs.Resize.{CanResize, IsStored}
use Rattle.image_laws.proofs.Free.{mix_one}
use Rattle.image_laws.proofs.Resizes.{resize_law, resize_tree_law, resize_room_law}
use Rattle.content_laws.specs.Cut.{LeavesLowered}
use Rattle.content_laws.specs.Growth.{sized}
use Rattle.content_laws.proofs.Bytes.{length-resized, resized_at, overwritten-in, overwritten-beside}
use Rattle.content_laws.proofs.CutWords.{fewer_pages}
use Rattle.content_laws.proofs.Ranges.{in_or_beside}
use Rattle.content_laws.proofs.Torn.{content_of}
use Rattle.weave_laws.specs.Bytes.{MayRaise, HoldsRange, LeavesRaised, RaisedMeaningLaw, MayLower, LoweredMeaningLaw}
use Rattle.weave_laws.proofs.SizedWords as words

-- ---- either way

module _ (P : ℕ) (I : List ℕ) (i z : ℕ) (can : CanResize P I i z) (other : inode_size I i ≢ z) where
  inside : inode_word_of i 2 < length I
  inside =
      let (some, most) = in_range P I can.coherent i can.reached in
      let within = inode_word_within P i 2 ((can.coherent Rule.head 0).size refl) some most (omega arith) in
      let long = (can.coherent Rule.head 0).whole refl in
      omega (arith, within, long)

  either : (M : List ℕ) → IsMix I (sized I i z) M → (M ≡ I) ⊎ (M ≡ sized I i z)
  either M mix = mix_one I M (inode_word_of i 2) z inside mix

  other_size : inode_size (sized I i z) i ≢ inode_size I i
  other_size e = other (sym e ∙ words.size_after P I i z can.coherent can.reached)

  -- the size word tells the two apart
  by_size : (M N : List ℕ) → IsMix I (sized I i z) M → IsMix I (sized I i z) N → inode_size N i ≡ inode_size M i → N ≡ M
  by_size M N m n same = elim (either M m) [
    | inl old ↦ elim (either N n) [
      | inl also ↦ also ∙ sym old
      | inr new ↦ absurd (other_size (ap (λ X. inode_size X i) (sym new) ∙ same ∙ ap (λ X. inode_size X i) old))
    ]
    | inr new ↦ elim (either N n) [
      | inl old ↦ absurd (other_size (ap (λ X. inode_size X i) (sym new) ∙ sym same ∙ ap (λ X. inode_size X i) old))
      | inr also ↦ also ∙ sym new
    ]
  ]

  -- in I the file has another size
  not_yet : (T : Tree) (bytes : List ℕ) → length bytes ≡ z → ¬ Reads P I (with_bytes T i bytes)
  not_yet T bytes long reads =
      let content = ((reads.nodes i (File bytes)).0 (node_at-with_bytes_here T i bytes)).1.1 in
      other (sym content.size ∙ long)

-- ---- the size rises

module _ (P : ℕ) (I : List ℕ) (i z : ℕ) (may : MayRaise P I i z) where
  pub can_raise : CanResize P I i z
  can_raise = record {
    coherent = may.coherent;
    reached = may.reached;
    file = may.file;
    small = may.small;
    full = λ k lt. elim (cases_lt k (pages_of_size (inode_size I i))) [
      | inl below ↦ may.coherent Rule.all_pages i may.reached may.file k below
      | inr behind ↦ may.full k behind lt
    ];
    one = λ h j k less lt first second. elim (cases_lt k (pages_of_size (inode_size I i))) [
      | inl below ↦ may.coherent Rule.own_offsets j h i k less may.reached may.file below first second
      | inr behind ↦ (let same = may.one h j k behind lt first second in omega (arith, same, less))
    ];
  }

  pub raised_coherent : IsCoherent P (sized I i z)
  raised_coherent = (resize_law P I i z can_raise).coherent

  module _ (offset : ℕ) (bytes : List ℕ) (holds : HoldsRange P I i z offset bytes) where
    byte_at : (old : List ℕ) → IsContent P I i old → (o j : ℕ) → o < z → IsPageOf P I i (o / 4096) j → slice_index (overwritten old offset bytes) o ≡ page_byte P I j (o % 4096)
    byte_at old was o j lt page = elim (in_or_beside offset bytes o) [
      | inl range ↦ overwritten-in old offset bytes o range ∙ sym (holds.new o j lt range page)
      | inr beside ↦ overwritten-beside old offset bytes o beside ∙ elim (cases_lt o (inode_size I i)) [
        | inl below ↦ was.bytes_at o j below page
        | inr behind ↦ get_or_past old o 0 (let size = was.size in omega (arith, size, behind)) ∙ sym (holds.zero o j lt beside behind page)
      ]
    ]

    stored : (old : List ℕ) → IsContent P I i old → IsStored P I i z (resized (overwritten old offset bytes) z)
    stored old was = record {
      size = length-resized (overwritten old offset bytes) z;
      bytes_at = λ o j lt page. resized_at (overwritten old offset bytes) z o lt ∙ byte_at old was o j lt page;
    }

    pub leaves_raised : LeavesRaised P I i z offset bytes
    leaves_raised =
        let other : inode_size I i ≢ z = λ e. (let larger = may.larger in omega (arith, larger, e)) in
        record {
          commit = either P I i z can_raise other;
          hangs = by_size P I i z can_raise other;
          not_yet = λ T. not_yet P I i z can_raise other T (resized (overwritten (bytes_of T i) offset bytes) z) (length-resized (overwritten (bytes_of T i) offset bytes) z);
          coherent = raised_coherent;
          reads = λ T reads. resize_tree_law P I i z T (resized (overwritten (bytes_of T i) offset bytes) z) can_raise
              (stored (bytes_of T i) (content_of P I T i may.coherent reads may.reached may.file)) reads;
          room = λ room has. resize_room_law P I i z room can_raise has;
        }

pub raised_meaning_law : RaisedMeaningLaw
raised_meaning_law P I i z offset bytes may holds = leaves_raised P I i z may offset bytes holds

-- ---- the size falls

module _ (P : ℕ) (I : List ℕ) (i z : ℕ) (may : MayLower P I i z) where
  below : (k : ℕ) → k < pages_of_size z → k < pages_of_size (inode_size I i)
  below k lt = fewer_pages (inode_size I i) z k (let less = may.less in omega (arith, less)) lt

  can_lower : CanResize P I i z
  can_lower = record {
    coherent = may.coherent;
    reached = may.reached;
    file = may.file;
    small = let old = may.coherent Rule.sizes i may.reached may.file in let less = may.less in omega (arith, old, less);
    full = λ k lt. may.coherent Rule.all_pages i may.reached may.file k (below k lt);
    one = λ h j k less lt. may.coherent Rule.own_offsets j h i k less may.reached may.file (below k lt);
  }

  pub lowered_coherent : IsCoherent P (sized I i z)
  lowered_coherent = (resize_law P I i z can_lower).coherent

  -- the first bytes
  stored_first : (old : List ℕ) → IsContent P I i old → IsStored P I i z (resized old z)
  stored_first old was = record {
    size = length-resized old z;
    bytes_at = λ o j lt page. resized_at old z o lt ∙ was.bytes_at o j (let less = may.less in omega (arith, less, lt)) page;
  }

  pub leaves_lowered : LeavesLowered P I i z
  leaves_lowered =
      let other : inode_size I i ≢ z = λ e. (let less = may.less in omega (arith, less, e)) in
      record {
        commit = either P I i z can_lower other;
        hangs = by_size P I i z can_lower other;
        not_yet = λ T. not_yet P I i z can_lower other T (resized (bytes_of T i) z) (length-resized (bytes_of T i) z);
        coherent = lowered_coherent;
        reads = λ T reads. resize_tree_law P I i z T (resized (bytes_of T i) z) can_lower
            (stored_first (bytes_of T i) (content_of P I T i may.coherent reads may.reached may.file)) reads;
        room = λ room has. resize_room_law P I i z room can_lower has;
      }

pub lowered_meaning_law : LoweredMeaningLaw
lowered_meaning_law P I i z may = leaves_lowered P I i z may

-- The bytes that a truncation to less leaves, and what may be stored after the size.
use Rattle.std.proofs.Common.{◌≡◌, inl, inr, ℕ, ◌-◌, ◌≤◌, List, length, slice_index, take, replicate, sym, ap, subst, ◌∙◌, arith}
use Rattle.std.proofs.lemmas.List.{take-append-le, length-take-le, get_or-take}
use Rattle.layout.specs.Fields.{page_offset}
use Rattle.tree_model.specs.Step.{resized}
use Rattle.tree_model.specs.Tree.{Tree, File, bytes_of, bytes_of_node}
use Rattle.image_reading.specs.Reading.{Reached, IsContent, pages_of_size, Reads}
use Rattle.image_reading.specs.Soundness.{IsCoherent}
use Rattle.image_counts.proofs.Nodes.{file_node}
use Rattle.image_laws.specs.Frame.{SameMeaning}
use Rattle.image_laws.specs.Resize.{IsStored}
use Rattle.image_laws.proofs.Meaning.{same_chained}
use Rattle.content_laws.specs.Cut.{CanCut, IsPastCut, Cuts, MayTrim}
use Rattle.content_laws.specs.Growth.{sized}
use Rattle.content_laws.proofs.CutWords as words
use Rattle.content_laws.proofs.Trims.{same_trim, same_release, may_release}

-- the first bytes of a content
first_bytes : (P : ℕ) (W : List ℕ) (i z : ℕ) (bytes : List ℕ) → z ≤ length bytes → IsContent P W i bytes → IsStored P W i z (resized bytes z)
first_bytes P W i z bytes le content =
    let same : resized bytes z ≡ take z bytes = take-append-le z bytes (replicate (z - length bytes) 0) le in
    record {
      size = ap length same ∙ length-take-le z bytes le;
      bytes_at = λ o j lt page. ap (λ l. slice_index l o) same ∙ get_or-take z bytes o 0 lt ∙ content.bytes_at o j (let size = content.size in omega (arith, size)) page;
    }

module _ (P : ℕ) (W : List ℕ) (i z : ℕ) (can : CanCut P W i z) where
  sized_coherent : IsCoherent P (sized W i z)
  sized_coherent = (words.resized_file P W i z can).coherent

  pub stored_first : (T : Tree) → Reads P W T → IsStored P W i z (resized (bytes_of T i) z)
  stored_first T reads =
      let (bytes, found) = file_node P W T can.tidy.coherent reads i can.reached can.file in
      let content = ((reads.nodes i (File bytes)).0 found).1.1 in
      let same : bytes_of T i ≡ bytes = ap bytes_of_node found in
      let short : z ≤ length bytes = (let size = content.size in let less = can.less in omega (arith, size, less)) in
      subst (λ b. IsStored P W i z (resized b z)) (sym same) (first_bytes P W i z bytes short content)

  reached_sized : Reached P (sized W i z) i
  reached_sized = let (path, there) = can.reached in (path, ((words.resized_file P W i z can).names path i).0 there)

  -- the pages past the new end may lose their owner
  pub may_trim : MayTrim P (sized W i z) i (IsPastCut P W i z)
  may_trim =
      let only = words.only P W i z can in
      record {
        coherent = sized_coherent;
        reached = reached_sized;
        file = only.node_kind i ∙ can.file;
        decided = λ j. elim (words.dec_past P W i z can j) [ yes g ↦ inl g | no n ↦ inr n ];
        past = λ j g. record {
          in_range = g.in_range;
          owner = only.owner j g.in_range ∙ g.owner;
          past = subst (λ y. pages_of_size y ≤ page_offset P (sized W i z) j) (sym (words.size_is P W i z can)) (subst (λ y. pages_of_size z ≤ y) (sym (only.offset j g.in_range)) g.past);
        };
      }

  pub same_end : (J K : List ℕ) → Cuts P W J K i z → SameMeaning P (sized W i z) K
  same_end J K h =
      let may = may_trim in
      same_chained P (sized W i z) J K (same_trim P (sized W i z) J (IsPastCut P W i z) h.gives i may)
      (same_release P J K (IsPastCut P W i z) i (may_release P (sized W i z) J (IsPastCut P W i z) h.gives i may) h.clears)

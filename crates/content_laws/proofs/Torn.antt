-- A range that is being written is torn in its part below the size.
use Rattle.std.proofs.Common.{◌≡◌, ◌↔◌, inl, inr, ℕ, ◌+◌, ◌/◌, ◌%◌, ◌<◌, true, List, length, slice_index, unwrap_or, sym, ap, subst, ◌∙◌, arith}
use Rattle.std.proofs.lemmas.Bool.{cases_eq}
use Rattle.layout.specs.Fields.{inode_size, page_byte}
use Rattle.tree_model.specs.Allowed.{is_mix}
use Rattle.tree_model.specs.Step.{with_bytes, id_of}
use Rattle.tree_model.specs.Tree.{Node, File, Tree, root_id, bytes_of, bytes_of_node}
use Rattle.image_reading.specs.Reading.{HasBytes, Reached, IsPageOf, IsContent, IsNode, Reads}
use Rattle.image_reading.specs.Soundness.{Rule, IsCoherent}
use Rattle.image_counts.proofs.Nodes.{some_content, file_node}
use Rattle.image_laws.specs.Frame.{SameBytes, SameMeaning}
use Rattle.image_laws.specs.Quiet.{MixesBytes}
use Rattle.image_laws.proofs.Addresses.{page_of_byte-lt}
use Rattle.image_laws.proofs.Meaning.{node}
use Rattle.content_laws.specs.Range.{IsBeside, WritesBelow}
use Rattle.content_laws.specs.Torn.{ReadsTorn, SameRange, TornLaw, TornMeansLaw, TornTreeLaw, SameTornLaw}
use Rattle.content_laws.proofs.Bytes.{IsMixedByte, mixed_bytes}
use Rattle.content_laws.proofs.Ranges.{in_or_beside, mixed_or}
use Rattle.content_laws.proofs.Meaning.{forth, back, reads_with, shape_room, meaning_by_nodes, shape_between}

-- a file's bytes in the tree are its content
pub content_of : (P : ℕ) (I : List ℕ) (T : Tree) (i : ℕ) → IsCoherent P I → Reads P I T → Reached P I i → HasBytes I i → IsContent P I i (bytes_of T i)
content_of P I T i coherent reads reached file =
    let (bytes, is) = file_node P I T coherent reads i reached file in
    let (r, node) = (reads.nodes i (File bytes)).0 is in
    subst (IsContent P I i) (sym (ap bytes_of_node is)) node.1

module _ (P : ℕ) (I J M : List ℕ) (i offset : ℕ) (bytes : List ℕ) (coherent : IsCoherent P I) (reached : Reached P I i) (file : HasBytes I i)
    (writes : WritesBelow P I J i offset bytes) (mixes : MixesBytes P I J M i) where
  reached_after : Reached P M i
  reached_after = forth P I M mixes.shape.names i reached

  same_size : inode_size M i ≡ inode_size I i
  same_size = (mixes.shape.inodes i reached).size

  each : (old mixed : List ℕ) → IsContent P I i old → IsContent P M i mixed → (o : ℕ) → o < length old → IsMixedByte offset bytes o (slice_index old o) (slice_index mixed o)
  each old mixed before after o lt =
      let long = before.size in
      let below : o < inode_size I i = omega (arith, long, lt) in
      let k = page_of_byte-lt o (inode_size I i) below in
      let (j, page) = coherent Rule.all_pages i reached file (o / 4096) k in
      let page' = (mixes.shape.pages i (o / 4096) j reached file k).0 page in
      let was = before.bytes_at o j below page in
      let is = after.bytes_at o j (subst (λ z. o < z) (sym same_size) below) page' in
      subst (λ b. IsMixedByte offset bytes o b (slice_index mixed o)) (sym was)
      (subst (IsMixedByte offset bytes o (page_byte P I j (o % 4096))) (sym is)
      (mixed_or offset bytes o (page_byte P I j (o % 4096)) (page_byte P M j (o % 4096)) (page_byte P J j (o % 4096)) (writes o j below page) (mixes.bytes j (o % 4096))))

  zero_before : (o : ℕ) → 0 + o ≡ o
  zero_before o = omega arith

  torn_reads : (T : Tree) → Reads P I T → (mixed : List ℕ) × (is_mix offset bytes 0 (bytes_of T i) mixed ≡ true) × Reads P M (with_bytes T i mixed)
  torn_reads T reads =
      let kind = (mixes.shape.inodes i reached).kind ∙ file in
      let (mixed, after) = some_content P M mixes.shape.coherent i reached_after kind in
      let before = content_of P I T i coherent reads reached file in
      let long : length mixed ≡ length (bytes_of T i) = after.size ∙ same_size ∙ sym before.size in (
        mixed,
        mixed_bytes offset bytes 0 (bytes_of T i) mixed long
            (λ o lt. subst (λ q. IsMixedByte offset bytes q (slice_index (bytes_of T i) o) (slice_index mixed o)) (sym (zero_before o)) (each (bytes_of T i) mixed before after o lt)),
        reads_with P I M mixes.shape.names T i mixed mixes.shape.coherent reached (kind, after) mixes.others reads,
      )

  pub torn : ReadsTorn P I M i offset bytes
  torn = record {
    coherent = mixes.shape.coherent;
    names = mixes.shape.names;
    others = mixes.others;
    reads = torn_reads;
    room = shape_room P I M mixes.shape;
  }

pub torn_law : TornLaw
torn_law P I J M i offset bytes coherent reached file writes mixes = torn P I J M i offset bytes coherent reached file writes mixes

pub torn_means_law : TornMeansLaw
torn_means_law P I A M i offset bytes torn same = record {
  coherent = same.coherent;
  names = λ q x. let first = torn.names q x in let second = same.names q x in ((λ b. second.0 (first.0 b)), (λ b. first.1 (second.1 b)));
  others = λ x y r ne.
      let first = torn.others x y r ne in
      let second = same.nodes x y (forth P I A torn.names x r) in
      ((λ k. second.0 (first.0 k)), (λ k. first.1 (second.1 k)));
  reads = λ T read. let (mixed, is, after) = torn.reads T read in (mixed, is, same.reads (with_bytes T i mixed) after);
  room = λ room has. same.room room (torn.room room has);
}

pub torn_tree_law : TornTreeLaw
torn_tree_law P I M old path i offset bytes leaves reads at accepted =
    let (mixed, is, after) = leaves.reads old.tree reads in
    let e : id_of old.tree path ≡ i = ap (λ o. unwrap_or o root_id) at in (
      with_bytes old.tree i mixed,
      after,
      (
        accepted,
        (
          mixed,
          subst (λ x. is_mix offset bytes 0 (bytes_of old.tree x) mixed ≡ true) (sym e) is,
          ap (λ x. with_bytes old.tree x mixed) (sym e),
        ),
      ),
    )

-- ---- two mixes with the same bytes of the range

module _ (P : ℕ) (I J M N : List ℕ) (i offset : ℕ) (bytes : List ℕ) (writes : WritesBelow P I J i offset bytes) (f : MixesBytes P I J M i) (g : MixesBytes P I J N i)
    (same : SameRange P I M N i offset bytes) where
  -- beside the range there are the old bytes
  kept : (X : List ℕ) → MixesBytes P I J X i → (o j : ℕ) → o < inode_size I i → IsPageOf P I i (o / 4096) j → IsBeside offset bytes o → page_byte P X j (o % 4096) ≡ page_byte P I j (o % 4096)
  kept X x o j lt page beside = elim (x.bytes j (o % 4096)) [ inl e ↦ e | inr e ↦ e ∙ (writes o j lt page).kept beside ]

  same_byte : (o j : ℕ) → o < inode_size I i → IsPageOf P I i (o / 4096) j → page_byte P N j (o % 4096) ≡ page_byte P M j (o % 4096)
  same_byte o j lt page = elim (in_or_beside offset bytes o) [
    | inl range ↦ same o j lt range page
    | inr beside ↦ kept N g o j lt page beside ∙ sym (kept M f o j lt page beside)
  ]

  same_bytes : Reached P I i → HasBytes I i → SameBytes P M N i
  same_bytes r file = record {
    bytes = λ o j lt page.
        let size = (f.shape.inodes i r).size in
        let below : o < inode_size I i = subst (λ z. o < z) size lt in
        same_byte o j below ((f.shape.pages i (o / 4096) j r file (page_of_byte-lt o (inode_size I i) below)).1 page);
  }

  nodes : (x : ℕ) (y : Node) → Reached P M x → IsNode P M x y ↔ IsNode P N x y
  nodes x y r = let m = back P I M f.shape.names x r in elim (cases_eq x i) [
    | inl e ↦ node P M N (shape_between P I M N f.shape g.shape) x y r
        (λ k. subst (SameBytes P M N) (sym e) (same_bytes (subst (Reached P I) e m) (subst (HasBytes I) e (sym (f.shape.inodes x m).kind ∙ k))))
    | inr ne ↦
        let before = f.others x y m ne in
        let after = g.others x y m ne in
        ((λ k. after.0 (before.1 k)), (λ k. before.0 (after.1 k)))
  ]

  pub same_torn : SameMeaning P M N
  same_torn = meaning_by_nodes P M N (shape_between P I M N f.shape g.shape) nodes

pub same_torn_law : SameTornLaw
same_torn_law P I J M N i offset bytes writes f g same = same_torn P I J M N i offset bytes writes f g same

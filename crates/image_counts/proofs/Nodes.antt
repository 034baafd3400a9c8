-- The nodes of the tree that a coherent image reads as.
use Rattle.std.proofs.Common.{◌≡◌, inl, inr, ℕ, zero, suc, ◌/◌, ◌%◌, ◌<◌, true, List, [], ◌∷◌, length, slice_index, Option, Some, None, is_some, refl, ap, arith}
use Rattle.layout.specs.Fields.{inode_size, page_byte}
use Rattle.tree_model.specs.Tree.{Tree, Node, Directory, File, node_at, is_directory, is_directory_node, is_file, is_file_node}
use Rattle.tree_model.proofs.NodeLaws.{directory_is, file_is}
use Rattle.image_reading.specs.Reading.{IsFile, IsDirectory, HasBytes, Reached, IsPageOf, pages_of_size, IsContent, Reads}
use Rattle.image_reading.specs.Soundness.{Rule, IsCoherent}
use Rattle.image_counts.specs.Laws.{HasSizes, SizeLaw}
use Rattle.image_counts.proofs.Paths.{three_cases}

-- a list whose elements are given one by one
list_of : (Q : ℕ → ℕ → Type 0) (n : ℕ) → ((o : ℕ) → o < n → (v : ℕ) × Q o v) → (xs : List ℕ) × (length xs ≡ n) × ((o : ℕ) → o < n → Q o (slice_index xs o))
list_of Q zero each = ([], refl, (λ o lt. absurd (omega (arith, lt))))
list_of Q (suc n) each =
    let (v, here) = each 0 (omega arith) in
    let (xs, long, rest) = list_of (λ o. Q (suc o)) n (λ o lt. each (suc o) (omega (arith, lt))) in
    (v ∷ xs, ap suc long, at v xs here rest)
  where
    at : (v : ℕ) (xs : List ℕ) → Q 0 v → ((o : ℕ) → o < n → Q (suc o) (slice_index xs o)) → (o : ℕ) → o < suc n → Q o (slice_index (v ∷ xs) o)
    at v xs here rest zero lt = here
    at v xs here rest (suc o) lt = rest o (omega (arith, lt))

offset_below : (size o : ℕ) → o < size → o / 4096 < pages_of_size size
unfolding pages_of_size
offset_below size o lt = omega arith

module _ (P : ℕ) (I : List ℕ) (coherent : IsCoherent P I) where
  -- ---- the bytes of a file

  -- an offset below the file's end is one page's
  pub one_page : (i k h j : ℕ) → Reached P I i → HasBytes I i → k < pages_of_size (inode_size I i) → IsPageOf P I i k h → IsPageOf P I i k j → h ≡ j
  one_page i k h j reached file below a b = elim (three_cases h j) [
    | inl e ↦ e
    | inr other ↦ elim other [
      | inl lt ↦ absurd (coherent Rule.own_offsets j h i k lt reached file below a b)
      | inr lt ↦ absurd (coherent Rule.own_offsets h j i k lt reached file below b a)
    ]
  ]

  abbrev IsByte : ℕ → ℕ → ℕ → Type 0
  IsByte i o v = (j : ℕ) → IsPageOf P I i (o / 4096) j → v ≡ page_byte P I j (o % 4096)

  one_byte : (i o : ℕ) → Reached P I i → HasBytes I i → o < inode_size I i → (v : ℕ) × IsByte i o v
  one_byte i o reached file lt =
      let below = offset_below (inode_size I i) o lt in
      let (h, page) = coherent Rule.all_pages i reached file (o / 4096) below in
      (page_byte P I h (o % 4096), (λ j other. ap (λ z. page_byte P I z (o % 4096)) (one_page i (o / 4096) h j reached file below page other)))

  pub some_content : (i : ℕ) → Reached P I i → HasBytes I i → (bytes : List ℕ) × IsContent P I i bytes
  some_content i reached file =
      let (bytes, long, each) = list_of (IsByte i) (inode_size I i) (λ o lt. one_byte i o reached file lt) in
      (bytes, record { size = long; bytes_at = λ o j lt page. each o lt j page })

-- ---- the nodes

module _ (P : ℕ) (I : List ℕ) (T : Tree) (coherent : IsCoherent P I) (reads : Reads P I T) where
  pub file_node : (i : ℕ) → Reached P I i → IsFile I i → (bytes : List ℕ) × (node_at T i ≡ Some (File bytes))
  file_node i reached file =
      let (bytes, content) = some_content P I coherent i reached file in
      (bytes, (reads.nodes i (File bytes)).1 (reached, (file, content)))

  pub directory_node : (i : ℕ) → Reached P I i → IsDirectory I i → node_at T i ≡ Some Directory
  directory_node i reached directory = (reads.nodes i Directory).1 (reached, directory)

  -- an inode is reached exactly where it has a node
  pub node_reached : (i : ℕ) → is_some (node_at T i) ≡ true → Reached P I i
  node_reached i there = of (node_at T i) refl there
    where
      of : (o : Option Node) → node_at T i ≡ o → is_some o ≡ true → Reached P I i
      of None is there = cc
      of (Some x) is there = ((reads.nodes i x).0 is).0

  pub reached_node : (i : ℕ) → Reached P I i → is_some (node_at T i) ≡ true
  reached_node i reached = elim ((coherent Rule.kinds i).kind reached) [
    | inl file ↦ ap is_some (file_node i reached file).1
    | inr directory ↦ ap is_some (directory_node i reached directory)
  ]

  is_directory_inode : (i : ℕ) → is_directory T i ≡ true → Reached P I i × IsDirectory I i
  is_directory_inode i is = (reads.nodes i Directory).0 (directory_is (node_at T i) is)

  is_file_inode : (i : ℕ) → is_file T i ≡ true → Reached P I i × IsFile I i
  is_file_inode i is =
      let (bytes, at) = file_is (node_at T i) is in
      let (reached, node) = (reads.nodes i (File bytes)).0 at in
      (reached, node.0)

  pub has_sizes : HasSizes P I T
  has_sizes = record {
    sizes = λ i bytes is. (let (reached, node) = (reads.nodes i (File bytes)).0 is in node.1.size);
    directories = λ i. (is_directory_inode i, (λ (reached, directory). ap is_directory_node (directory_node i reached directory)));
    files = λ i. (is_file_inode i, (λ (reached, file). ap is_file_node (file_node i reached file).1));
  }

pub size_law : SizeLaw
size_law P I state coherent reads = has_sizes P I state.tree coherent reads.tree

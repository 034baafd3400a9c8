-- Trees whose nodes are of the same kinds and sizes: as many inodes and pages are in use.
use Rattle.std.proofs.Common.{◌≡◌, ℕ, inl, inr, true, false, List, length, sum_by, Option, Some, None, is_some, refl, sym, ap, subst, ◌∙◌, nat_cmp}
use Rattle.layout.specs.Geometry.{pieces}
use Rattle.tree_model.specs.Table.{Table}
use Rattle.tree_model.specs.Tree.{Tree, Node, IsTree, root_id, node_at, node_pages, is_directory_node, is_file_node, bytes_of, bytes_of_node, page_bytes}
use Rattle.tree_model.proofs.NodeLaws.{file_is, no_directory}
use Rattle.mixing_laws.specs.Mixed.{Range, IsMixed}
use Rattle.mixing_laws.proofs.Mixes.{length-mix}
use Rattle.mixing_laws.proofs.Ranges.{range_or_not}
use Rattle.mixing_laws.proofs.Paged.{pages_at, paged, same_by_pages, sum_by-paged, length-paged}

-- ---- two nodes

pub record IsAlikeNode (now was : Option Node) : Type 0 where
  pub there : is_some now ≡ is_some was
  pub directory : is_directory_node now ≡ is_directory_node was
  pub file : is_file_node now ≡ is_file_node was
  pub size : length (bytes_of_node now) ≡ length (bytes_of_node was)
  pub pages : pages_at now ≡ pages_at was

same_node : (now was : Option Node) → now ≡ was → IsAlikeNode now was
same_node now was e = record {
  there = ap is_some e;
  directory = ap is_directory_node e;
  file = ap is_file_node e;
  size = ap (λ o. length (bytes_of_node o)) e;
  pages = ap pages_at e;
}

two_files : (now was : Option Node) → is_file_node now ≡ true → is_file_node was ≡ true → length (bytes_of_node now) ≡ length (bytes_of_node was) → IsAlikeNode now was
two_files now was e f size =
    let new = file_is now e in
    let old = file_is was f in
    let same : length new.0 ≡ length old.0 = ap (λ o. length (bytes_of_node o)) (sym new.1) ∙ size ∙ ap (λ o. length (bytes_of_node o)) old.1 in
    record {
      there = ap is_some new.1 ∙ sym (ap is_some old.1);
      directory = no_directory now e ∙ sym (no_directory was f);
      file = e ∙ sym f;
      size = size;
      pages = ap pages_at new.1 ∙ ap (λ n. Some (pieces n page_bytes)) same ∙ sym (ap pages_at old.1);
    }

-- ---- two trees

abbrev pub AreAlike : Tree → Tree → Type 0
AreAlike T U = (id : ℕ) → IsAlikeNode (node_at U id) (node_at T id)

pub alike_mixed : (ranges : List Range) (T U : Tree) → IsMixed ranges T U → AreAlike T U
alike_mixed ranges T U m id = elim (range_or_not ranges id) [
  | inl h ↦ let (range, held, is) = h in
      let f = m.files range held in
      let size = length-mix range.offset range.bytes 0 (bytes_of T range.file) (bytes_of U range.file) f.bytes in
      subst (λ i. IsAlikeNode (node_at U i) (node_at T i)) is (two_files (node_at U range.file) (node_at T range.file) f.file_still f.file size)
  | inr none ↦ same_node (node_at U id) (node_at T id) (m.others id none)
]

none_is : (o : Option Node) → is_some o ≡ false → o ≡ None
none_is None e = refl
none_is (Some node) e = cc

pub unused_alike : (T U : Tree) → AreAlike T U → (id : ℕ) → node_at U id ≡ None → node_at T id ≡ None
unused_alike T U alike id unused = none_is (node_at T id) (sym (alike id).there ∙ ap is_some unused)

module _ (T U : Tree) (alike : AreAlike T U) where
  same_paged : paged U.nodes.entries ≡ paged T.nodes.entries
  same_paged = same_by_pages U.nodes.entries T.nodes.entries U.nodes.sorted T.nodes.sorted (λ id. (alike id).pages)

  pub same_file_pages : sum_by (λ e. node_pages e.1) U.nodes.entries ≡ sum_by (λ e. node_pages e.1) T.nodes.entries
  same_file_pages = sym (sum_by-paged U.nodes.entries) ∙ ap (λ es. sum_by (λ e. e.1) es) same_paged ∙ sum_by-paged T.nodes.entries

  pub same_inodes : length U.nodes.entries ≡ length T.nodes.entries
  same_inodes = sym (length-paged U.nodes.entries) ∙ ap length same_paged ∙ length-paged T.nodes.entries

-- with the same names both are trees
pub tree_alike : (T : Tree) (nodes : Table nat_cmp Node) → AreAlike T (record { names = T.names; nodes = nodes }) → IsTree (record { names = T.names; nodes = nodes }) → IsTree T
tree_alike T nodes alike v = record {
  root = v.root;
  root_directory = sym (alike root_id).directory ∙ v.root_directory;
  parents = λ p there. elim (v.parents p there) [ inl root ↦ inl root | inr d ↦ inr (d.0, d.1, sym (alike d.0).directory ∙ d.2) ];
  one_path = λ id dir p q at_p at_q. v.one_path id ((alike id).directory ∙ dir) p q at_p at_q;
  named = λ id there. v.named id ((alike id).there ∙ there);
  present = λ p id at. sym (alike id).there ∙ v.present p id at;
}

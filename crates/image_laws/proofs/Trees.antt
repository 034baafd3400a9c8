-- A coherent image reads as a tree, which is well formed.
use Rattle.std.proofs.Common.{◌≡◌, ◌↔◌, inl, inr, ℕ, ◌+◌, true, List, [], ◌∷◌, ◌++◌, map, reverse, refl, sym, ap, ◌∙◌, arith}
use Rattle.std.proofs.lemmas.List.{reverse-append, reverse-reverse}
use Rattle.std.specs.Cmp.{nat_cmp_total}
use Rattle.std.specs.FinMap.{nat_cmp-IsAntisymmetric}
use Rattle.std.proofs.Common.{nat_cmp}
use Rattle.layout.specs.Geometry.{inodes_of}
use Rattle.tree_model.specs.PathText.{Route}
use Rattle.tree_model.specs.Table.{table_of}
use Rattle.tree_model.specs.Tree.{Node, Tree, route_cmp, route_cmp_total, is_directory, parent, last_name}
use Rattle.tree_model.proofs.TableLaws.{get-table_of, route_cmp-IsAntisymmetric}
use Rattle.image_reading.specs.Reading.{IsDirectory, Names, Reached, IsNode, Reads}
use Rattle.image_reading.specs.Soundness.{IsCoherent}
use Rattle.image_counts.proofs.Paths.{one_inode}
use Rattle.image_counts.proofs.Nodes.{has_sizes}
use Rattle.image_counts.proofs.States.{is_tree}
use Rattle.image_laws.specs.Trees.{TreeLaw, FormLaw}
use Rattle.image_laws.proofs.AllNames.{all_names, all_names_are}
use Rattle.image_laws.proofs.Contents.{one_node, nodes_below, in_nodes, nodes_has}
use Rattle.image_laws.proofs.Entries.{Listed, find_has, has_find}
use Rattle.image_laws.proofs.Paths.{reached-le}

-- ---- a path and its names the other way round

-- the last name stands first
pub reverse_path : (name : List ℕ) (names : Route) → reverse (name ∷ names) ≡ last_name (name ∷ names) ∷ reverse (parent (name ∷ names))
reverse_path name [] = refl
reverse_path name (next ∷ names) =
    reverse-append (name ∷ []) (next ∷ names) ∙ ap (λ p. p ++ name ∷ []) (reverse_path next names)
    ∙ ap (λ p. last_name (next ∷ names) ∷ p) (sym (reverse-append (name ∷ []) (parent (next ∷ names))))

turned : Route × ℕ → Route × ℕ
turned e = (reverse e.0, e.1)

turned_has : (es : List (Route × ℕ)) (p : Route) (i : ℕ) → Listed (map turned es) p i ↔ Listed es (reverse p) i
unfolding turned
turned_has [] p i = ((λ h. h), (λ h. h))
turned_has (e ∷ es) p i = (
  (λ h. elim h [
    | inl g ↦ inl (sym (reverse-reverse e.0) ∙ ap reverse g.0, g.1)
    | inr g ↦ inr ((turned_has es p i).0 g)
  ]),
  (λ h. elim h [
    | inl g ↦ inl (ap reverse g.0 ∙ reverse-reverse p, g.1)
    | inr g ↦ inr ((turned_has es p i).1 g)
  ]),
)

-- ---- the tree of a coherent image

module _ (P : ℕ) (I : List ℕ) (coherent : IsCoherent P I) where
  all_paths : List (Route × ℕ)
  unfolding turned
  all_paths = map turned (all_names P I coherent)

  all_paths_are : (p : Route) (i : ℕ) → Listed all_paths p i ↔ Names P I (reverse p) i
  unfolding all_paths
  all_paths_are p i = (
    (λ h. (all_names_are P I coherent (reverse p) i).0 ((turned_has (all_names P I coherent) p i).0 h)),
    (λ b. (turned_has (all_names P I coherent) p i).1 ((all_names_are P I coherent (reverse p) i).1 b)),
  )

  all_nodes : List (ℕ × Node)
  all_nodes = nodes_below P I coherent (inodes_of P + 1)

  all_nodes_are : (i : ℕ) (x : Node) → Listed all_nodes i x ↔ (Reached P I i × IsNode P I i x)
  unfolding all_nodes
  all_nodes_are i x = (
    in_nodes P I coherent (inodes_of P + 1) i x,
    λ (r, k). nodes_has P I coherent (inodes_of P + 1) i x (let h = reached-le P I coherent i r in omega (arith, h)) r k,
  )

  the_tree : Tree
  the_tree = record { names = table_of route_cmp_total all_paths; nodes = table_of nat_cmp_total all_nodes }

  the_tree_reads : Reads P I the_tree
  unfolding the_tree
  the_tree_reads = record {
    names = λ p i. (
      (λ e. (all_paths_are p i).0 (find_has route_cmp route_cmp_total route_cmp-IsAntisymmetric all_paths p i (sym (get-table_of route_cmp_total all_paths p) ∙ e))),
      (λ b. get-table_of route_cmp_total all_paths p ∙ has_find route_cmp route_cmp_total route_cmp-IsAntisymmetric all_paths p i
          (λ k h. one_inode P I coherent (reverse p) k i ((all_paths_are p k).0 h) b) ((all_paths_are p i).1 b)),
    );
    nodes = λ i x. (
      (λ e. (all_nodes_are i x).0 (find_has nat_cmp nat_cmp_total nat_cmp-IsAntisymmetric all_nodes i x (sym (get-table_of nat_cmp_total all_nodes i) ∙ e))),
      (λ b. get-table_of nat_cmp_total all_nodes i ∙ has_find nat_cmp nat_cmp_total nat_cmp-IsAntisymmetric all_nodes i x
          (λ y h. one_node P I coherent i y x b.0 ((all_nodes_are i y).0 h).1 b.1) ((all_nodes_are i x).1 b)),
    );
  }

-- ---- it is well formed

module _ (P : ℕ) (I : List ℕ) (T : Tree) (coherent : IsCoherent P I) (reads : Reads P I T) where
  pub directory_is : (i : ℕ) → is_directory T i ≡ true → Reached P I i × IsDirectory I i
  directory_is i = ((has_sizes P I T coherent reads).directories i).0

  pub is_directory-reached : (i : ℕ) → Reached P I i → IsDirectory I i → is_directory T i ≡ true
  is_directory-reached i r k = ((has_sizes P I T coherent reads).directories i).1 (r, k)

pub form_law : FormLaw
form_law P I T coherent reads = is_tree P I T coherent reads

pub tree_law : TreeLaw
tree_law P I coherent = (the_tree P I coherent, the_tree_reads P I coherent, form_law P I (the_tree P I coherent) coherent (the_tree_reads P I coherent))

-- A tree without the ids that have no path left is what an image reads as, where its paths are the image's.
use Rattle.std.proofs.Common.{◌≡◌, ◌↔◌, ◌⊎◌, inl, inr, ℕ, ◌==◌, ◌≤◌, Bool, true, false, cond, ◌||◌, T, List, [], ◌∷◌, reverse, Some, None, refl, sym, ap, subst, ◌∙◌, is_eq, arith}
use Rattle.std.proofs.lemmas.List.{reverse-reverse}
use Rattle.std.proofs.lemmas.Bool.Decides.{nat_tests}
use Rattle.std.specs.FinMap.Entries.{find, is_sorted}
use Rattle.std.specs.List.{list_any}
use Rattle.layout.specs.Geometry.{inodes_of}
use Rattle.tree_model.proofs.EntryLaws.{front, back, find-below, find-first}
use Rattle.tree_model.specs.PathText.{Route}
use Rattle.tree_model.specs.Step.{without_path, without_unnamed}
use Rattle.tree_model.proofs.TableLaws.{get-retain}
use Rattle.tree_model.specs.Tree.{Node, Tree, route_cmp, route_cmp_total, id_at, node_at, is_directory, is_directory_node}
use Rattle.tree_model.proofs.TreeLaws.{is_same, other_route, same_id}
use Rattle.tree_model.proofs.TreeKept.{none_some}
use Rattle.image_reading.specs.Reading.{Names, Reached, IsNode, Reads}
use Rattle.image_reading.specs.Soundness.{IsCoherent}
use Rattle.image_laws.proofs.Paths.{reached-le}

-- ---- whether an id has a path

has_path : List (Route × ℕ) → ℕ → Bool
has_path es i = list_any (λ e. e.1 == i) es

or_cases : (a b : Bool) → a || b ≡ true → (a ≡ true) ⊎ (b ≡ true)
or_cases true b e = inl refl
or_cases false b e = inr e

or_left : (a b : Bool) → a ≡ true → a || b ≡ true
or_left true b e = refl
or_left false b e = cc

or_right : (a b : Bool) → b ≡ true → a || b ≡ true
or_right true b e = refl
or_right false b e = e

found_has : (es : List (Route × ℕ)) (q : Route) (i : ℕ) → find route_cmp q es ≡ Some i → has_path es i ≡ true
unfolding has_path
found_has [] q i e = cc
found_has (e ∷ es) q i is = elim (is_same q e.0) as (λ t. is_same q e.0 ≡ t → cond t (Some e.1) (find route_cmp q es) ≡ Some i → e.1 == i || has_path es i ≡ true) [
  | true ↦ λ tie is. or_left (e.1 == i) (has_path es i) (let same : e.1 ≡ i = cc in grind (arith, nat_tests))
  | false ↦ λ tie is. or_right (e.1 == i) (has_path es i) (found_has es q i is)
] refl is

has_found : (es : List (Route × ℕ)) (i : ℕ) → T (is_sorted route_cmp es) → has_path es i ≡ true → (q : Route) × (find route_cmp q es ≡ Some i)
unfolding has_path
has_found [] i h e = cc
has_found (e ∷ es) i h there = elim (or_cases (e.1 == i) (has_path es i) there) [
  | inl is ↦ (e.0, find-first route_cmp route_cmp_total e es ∙ ap Some (same i is))
  | inr rest ↦
      let (q, found) = has_found es i (back _ _ h) rest in (
        q,
        ap (λ b. cond b (Some e.1) (find route_cmp q es)) (other_route q e.0 (λ tie.
            none_some i (sym (find-below route_cmp e.0 es (front _ _ h)) ∙ ap (λ z. find route_cmp z es) (sym tie) ∙ found))) ∙ found,
      )
]
  where
    same : (i : ℕ) → (e.1 == i) ≡ true → e.1 ≡ i
    same i is = grind (arith, nat_tests)

node_at-pruned : (tree : Tree) (i : ℕ) → node_at (without_unnamed tree) i ≡ cond (has_path tree.names.entries i) (node_at tree i) None
unfolding has_path
node_at-pruned tree i = get-retain tree.nodes (λ x. list_any (λ e. e.1 == x) tree.names.entries) i (λ x e. ap (λ k. list_any (λ e. e.1 == k) tree.names.entries) (sym (same_id i x (ap is_eq e))))

-- what is a directory without the ids that have no path is one with them
pub directory_before : (tree : Tree) (path : Route) (x : ℕ) → is_directory (without_unnamed (without_path tree path)) x ≡ true → is_directory tree x ≡ true
directory_before tree path x e = by (has_path (without_path tree path).names.entries x) (sym (ap is_directory_node (node_at-pruned (without_path tree path) x)) ∙ e)
  where
    by : (b : Bool) → is_directory_node (cond b (node_at tree x) None) ≡ true → is_directory tree x ≡ true
    by true e = e
    by false e = cc

-- ---- what is read

-- Where the paths of a tree are those of J, and its nodes those of I, the nodes of J are the ones that have a path.
module _ (P : ℕ) (I J : List ℕ) (tree after : Tree) (coherent : IsCoherent P I) (reads : Reads P I tree) (same_nodes : (x : ℕ) → node_at after x ≡ node_at tree x)
    (names : (q : Route) (x : ℕ) → (id_at after q ≡ Some x) ↔ Names P J (reverse q) x) (before : (x : ℕ) → Reached P J x → Reached P I x)
    (nodes : (x : ℕ) (z : Node) → x ≤ inodes_of P → IsNode P I x z ↔ IsNode P J x z) where
  has_reached : (x : ℕ) → has_path after.names.entries x ≡ true → Reached P J x
  has_reached x e =
      let (q, found) = has_found after.names.entries x after.names.sorted e in
      (reverse q, (names q x).0 found)

  reached_has : (x : ℕ) → Reached P J x → has_path after.names.entries x ≡ true
  reached_has x (q, b) = found_has after.names.entries (reverse q) x ((names (reverse q) x).1 (subst (λ z. Names P J z x) (sym (reverse-reverse q)) b))

  nodes_pruned : (x : ℕ) (z : Node) → (node_at (without_unnamed after) x ≡ Some z) ↔ (Reached P J x × IsNode P J x z)
  nodes_pruned x z = (
    (λ e. forth (has_path after.names.entries x) refl (sym (node_at-pruned after x) ∙ e)),
    (λ (r, k).
        let old = before x r in
        node_at-pruned after x ∙ ap (λ b. cond b (node_at after x) None) (reached_has x r)
        ∙ same_nodes x ∙ (reads.nodes x z).1 (old, (nodes x z (reached-le P I coherent x old)).1 k)),
  )
    where
      forth : (b : Bool) → has_path after.names.entries x ≡ b → cond b (node_at after x) None ≡ Some z → Reached P J x × IsNode P J x z
      forth true there e =
          let (old, k) = (reads.nodes x z).0 (sym (same_nodes x) ∙ e) in
          (has_reached x there, (nodes x z (reached-le P I coherent x old)).0 k)
      forth false there e = absurd (none_some z e)

  pub reads_pruned : Reads P J (without_unnamed after)
  reads_pruned = record { names = names; nodes = nodes_pruned }

-- The directory that loses a name stays one.
use Rattle.std.proofs.Common.{◌≡◌, ◌≢◌, ℕ, ◌+◌, true, false, [], ◌∷◌, length, length-append, Some, None, is_some, ap, ◌∙◌, arith}
use Rattle.tree_model.specs.PathText.{Route}
use Rattle.tree_model.specs.Tree.{Tree, IsTree, is_directory_node, is_root, parent, last_name, rest_after, id_at, is_directory}
use Rattle.tree_model.specs.Step.{without_path, without_unnamed, with_moved}
use Rattle.tree_model.proofs.Lookups.{rest_after-some}
use Rattle.tree_model.proofs.TreeKept.{is_some_at}
use Rattle.tree_model.proofs.TreeLess.{HasNoNames, less_kept, IsAlmostTree-without_path}
use Rattle.tree_model.proofs.TreeMoved.{not_some, clear, at_self, IsAlmostTree-with_moved}
use Rattle.tree_model.proofs.TreePruned.{kept_named}
use Rattle.volume.proofs.Ways.{whole_path}

shorter : (p : Route) → is_root p ≡ false → length p ≡ length (parent p) + 1
shorter p below = ap length (whole_path p below) ∙ length-append (parent p) (last_name p ∷ [])

pub other_path : (p : Route) → is_root p ≡ false → parent p ≢ p
other_path p below same = let less = shorter p below in let long = ap length same in omega (arith, less, long)

-- a path begins not its parent
not_its_parent : (p : Route) → is_root p ≡ false → rest_after p (parent p) ≡ None
not_its_parent p below = not_some (rest_after p (parent p)) (λ s e.
    let less = shorter p below in
    let longer = ap length (rest_after-some p (parent p) s e) ∙ length-append p s in
    omega (arith, less, longer))

module _ (T : Tree) (t : IsTree T) (path : Route) (d : ℕ) (below : is_root path ≡ false) (empty : HasNoNames T path) (held : id_at T (parent path) ≡ Some d) (holds : is_directory T d ≡ true) where
  pub removal_stays : is_directory (without_unnamed (without_path T path)) d ≡ true
  removal_stays =
      ap is_directory_node (kept_named (without_path T path) (IsAlmostTree-without_path T t path below empty) (parent path) d (less_kept T t path below empty (parent path) (other_path path below) ∙ held)) ∙ holds

module _ (T : Tree) (t : IsTree T) (from to : Route) (holder d : ℕ) (from_below : is_root from ≡ false) (to_below : is_root to ≡ false)
    (held : id_at T (parent to) ≡ Some holder) (holds : is_directory T holder ≡ true) (empty : HasNoNames T to) (outside : rest_after from to ≡ None)
    (there : is_some (id_at T from) ≡ true) (from_held : id_at T (parent from) ≡ Some d) (from_holds : is_directory T d ≡ true) where
  still_named : id_at (without_path T to) (parent from) ≡ Some d
  still_named = less_kept T t to to_below empty (parent from) (empty from there from_below) ∙ from_held

  pub move_stays : is_directory (without_unnamed (with_moved (without_path T to) from to)) d ≡ true
  move_stays =
      let clear_of = clear T t from to holder from_below to_below held holds empty outside (parent from) (is_some_at (id_at (without_path T to) (parent from)) d still_named) in
      let named = at_self T t from to holder from_below to_below held holds empty outside (parent from) d clear_of (not_its_parent from from_below) still_named in
      ap is_directory_node (kept_named (with_moved (without_path T to) from to) (IsAlmostTree-with_moved T t from to holder from_below to_below held holds empty outside) (parent from) d named) ∙ from_holds

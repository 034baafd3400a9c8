-- What edits of a tree are on its entries.
use Rattle.std.proofs.Common.{◌≡◌, ℕ, Bool, true, false, cond, ◌==◌, not, List, [], ◌∷◌, ◌++◌, Option, Some, None, is_some, refl, sym, ap, ◌∙◌, Ordering, nat_cmp}
use Rattle.std.specs.Ordering.{eq_by_cmp, is_eq}
use Rattle.std.specs.Cmp.{IsTotalOrder, nat_cmp_total, alike_right, eq_by_cmp_equiv}
use Rattle.std.specs.FinMap.{IsAntisymmetric, nat_cmp-IsAntisymmetric}
use Rattle.std.specs.FinMap.Entries.{find, where_key, find-where_key}
use Rattle.tree_model.specs.PathText.{Route}
use Rattle.tree_model.specs.Table.{retain, insert, table_of}
use Rattle.tree_model.specs.Tree.{Node, route_cmp, route_cmp_total, rest_after, id_at}
use Rattle.tree_model.specs.Step.{with_path, without_path, without_unnamed, with_moved, moved_path}
use Rattle.plain_tree.specs.Entries.{AreDistinct, tree_of, is_other, has_name, moved_entries}
use Rattle.tree_model.proofs.TableLaws.{route_cmp-IsAntisymmetric, get-insert, get-table_of, same_table}
use Rattle.plain_tree.proofs.TableLaws.{retain-table_of, list_any-table_of, AreDistinct-where_key}
use Rattle.tree_model.proofs.Lookups.{origin, origin_of, at_origin, rest_after-append, rest_after-some, AreClearOf, AreClearOf-from_find, find-moved}

-- ---- an entry in the place of the one at its key

module _ {K X : Type 0} (R : K → K → Ordering) (o : IsTotalOrder R) where
  abbrev pub others : K → List (K × X) → List (K × X)
  others k es = where_key R (λ x. not (eq_by_cmp R k x)) es

  find-others : (k q : K) (es : List (K × X)) → find R q (others k es) ≡ cond (not (eq_by_cmp R q k)) (find R q es) None
  find-others k q es =
      find-where_key R (λ x. not (eq_by_cmp R k x)) q (λ x t. ap (λ r. not (is_eq r)) (sym (alike_right o q x k t))) es
      ∙ ap (λ b. cond (not b) (find R q es) None) ((eq_by_cmp_equiv o).symm k q)

  pub AreDistinct-put : (k : K) (v : X) (es : List (K × X)) → AreDistinct R es → AreDistinct R ((k, v) ∷ others k es)
  AreDistinct-put k v es distinct =
      (find-others k k es ∙ ap (λ b. cond (not b) (find R k es) None) ((eq_by_cmp_equiv o).refl k), AreDistinct-where_key R (λ x. not (eq_by_cmp R k x)) es distinct)

  hidden : (b : Bool) (v : X) (found : Option X) → cond b (Some v) found ≡ cond b (Some v) (cond (not b) found None)
  hidden true v found = refl
  hidden false v found = refl

  pub insert-table_of : IsAntisymmetric R → (k : K) (v : X) (es : List (K × X)) → insert o (table_of o es) k v ≡ table_of o ((k, v) ∷ others k es)
  insert-table_of same k v es = same_table o same (insert o (table_of o es) k v) (table_of o ((k, v) ∷ others k es)) (λ q.
      get-insert o (table_of o es) k v q
      ∙ ap (λ found. cond (eq_by_cmp R q k) (Some v) found) (get-table_of o es q)
      ∙ hidden (eq_by_cmp R q k) v (find R q es)
      ∙ ap (λ found. cond (eq_by_cmp R q k) (Some v) found) (sym (find-others k q es))
      ∙ sym (get-table_of o ((k, v) ∷ others k es) q))

-- ---- the edits

module _ (names : List (Route × ℕ)) (nodes : List (ℕ × Node)) where
  -- a path, and a node, in the place of what was there
  pub with_path-tree_of : (path : Route) (id : ℕ) → with_path (tree_of names nodes) path id ≡ tree_of ((path, id) ∷ where_key route_cmp (is_other path) names) nodes
  with_path-tree_of path id =
      let put = insert-table_of route_cmp route_cmp_total route_cmp-IsAntisymmetric path id names in
      λ i. record { names = put i; nodes = table_of nat_cmp_total nodes }

  pub with_node-tree_of : (id : ℕ) (node : Node) → insert nat_cmp_total (table_of nat_cmp_total nodes) id node ≡ table_of nat_cmp_total ((id, node) ∷ others nat_cmp nat_cmp_total id nodes)
  with_node-tree_of id node = insert-table_of nat_cmp nat_cmp_total nat_cmp-IsAntisymmetric id node nodes

  -- without a path, and without the ids that have none
  pub without_path-tree_of : (path : Route) → without_path (tree_of names nodes) path ≡ tree_of (where_key route_cmp (is_other path) names) nodes
  without_path-tree_of path =
      let left = retain-table_of route_cmp route_cmp_total route_cmp-IsAntisymmetric (is_other path) names (λ x y t. ap (is_other path) (sym (route_cmp-IsAntisymmetric x y t))) in
      λ i. record { names = left i; nodes = table_of nat_cmp_total nodes }

  pub without_unnamed-tree_of : AreDistinct route_cmp names → without_unnamed (tree_of names nodes) ≡ tree_of names (where_key nat_cmp (has_name names) nodes)
  without_unnamed-tree_of distinct =
      let same : (id : ℕ) → has_name (table_of route_cmp_total names).entries id ≡ has_name names id = λ id. list_any-table_of route_cmp route_cmp_total (λ e. e.1 == id) names distinct in
      let tests : has_name (table_of route_cmp_total names).entries ≡ has_name names = λ i id. same id i in
      let left = ap (retain (table_of nat_cmp_total nodes)) tests
      ∙ retain-table_of nat_cmp nat_cmp_total nat_cmp-IsAntisymmetric (has_name names) nodes (λ x y t. ap (has_name names) (sym (nat_cmp-IsAntisymmetric x y t))) in
      λ i. record { names = table_of route_cmp_total names; nodes = left i }

  pub AreClearOf-listed : (to : Route) → ((p : Route) → is_some (id_at (tree_of names nodes) p) ≡ true → rest_after to p ≡ None) → AreClearOf to names
  AreClearOf-listed to clear = AreClearOf-from_find to names (λ p there. clear p (ap is_some (get-table_of route_cmp_total names p) ∙ there))

  -- a path moved with all below it, where no path begins with the new one
  pub with_moved-tree_of : (from to : Route) → ((p : Route) → is_some (id_at (tree_of names nodes) p) ≡ true → rest_after to p ≡ None)
      → with_moved (tree_of names nodes) from to ≡ tree_of (moved_entries from to names) nodes
  with_moved-tree_of from to clear =
      let sorted = (table_of route_cmp_total names).entries in
      let listed = AreClearOf-listed to clear in
      let each : (o : Option Route) → at_origin o sorted ≡ at_origin o names = at_origins in
      let moved = same_table route_cmp_total route_cmp-IsAntisymmetric (table_of route_cmp_total (moved_entries from to sorted)) (table_of route_cmp_total (moved_entries from to names)) (λ q.
      get-table_of route_cmp_total (moved_entries from to sorted) q
      ∙ find-moved from to q sorted (AreClearOf-from_find to sorted clear)
      ∙ each (origin_of from to q)
      ∙ sym (find-moved from to q names listed)
      ∙ sym (get-table_of route_cmp_total (moved_entries from to names) q)) in
      λ i. record { names = moved i; nodes = table_of nat_cmp_total nodes }
    where
      at_origins : (o : Option Route) → at_origin o (table_of route_cmp_total names).entries ≡ at_origin o names
      at_origins None = refl
      at_origins (Some p) = get-table_of route_cmp_total names p

origin-moved : (from to p : Route) (o : Option Route) → rest_after from p ≡ o → rest_after to p ≡ None → origin_of from to (moved_path to o p) ≡ Some p
origin-moved from to p (Some rest) is outside =
    ap (λ b. origin from b (is_some (rest_after from (to ++ rest))) (to ++ rest)) (rest_after-append to rest) ∙ ap Some (sym (rest_after-some from p rest is))
origin-moved from to p None is outside =
    ap (λ b. origin from b (is_some (rest_after from p)) p) outside ∙ ap (λ c. origin from None (is_some c) p) is

-- no two paths move to one
pub AreDistinct-moved : (from to : Route) (es : List (Route × ℕ)) → AreClearOf to es → AreDistinct route_cmp es → AreDistinct route_cmp (moved_entries from to es)
AreDistinct-moved from to [] clear distinct = tt
AreDistinct-moved from to (e ∷ es) clear distinct =
    let key = moved_path to (rest_after from e.0) e.0 in (
      find-moved from to key es clear.1 ∙ ap (λ o. at_origin o es) (origin-moved from to e.0 (rest_after from e.0) refl clear.0) ∙ distinct.0,
      AreDistinct-moved from to es clear.1 distinct.1,
    )

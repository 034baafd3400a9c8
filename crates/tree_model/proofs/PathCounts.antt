-- How many paths an id has after a change of the paths, and which nodes stay by it.
use Rattle.std.proofs.Common.{◌≡◌, ℕ, ◌+◌, ◌≤◌, Bool, true, false, not, cond, ◌||◌, ◌==◌, List, [], ◌∷◌, ◌++◌, Option, Some, None, is_some, is_none, refl, sym, ap, ◌∙◌, arith, T, is_eq, count_by}
use Rattle.std.proofs.lemmas.List.Sums.{sum_by-cons}
use Rattle.std.specs.Ordering.{eq_by_cmp}
use Rattle.std.specs.List.{list_any}
use Rattle.std.specs.FinMap.Entries.{find, where_key, is_sorted}
use Rattle.std.proofs.lemmas.Bool.Decides.{nat_tests}
use Rattle.tree_model.specs.PathText.{Route}
use Rattle.tree_model.specs.Table.{table_of}
use Rattle.tree_model.specs.Tree.{Tree, Node, IsTree, route_cmp, route_cmp_total, rest_after, id_at, node_at, path_count}
use Rattle.tree_model.proofs.TableLaws.{get-retain, get-table_of}
use Rattle.tree_model.specs.Step.{without_path, without_unnamed, with_moved, moved_path}
use Rattle.tree_model.proofs.EntryLaws.{front, back, find-below, measure_found, sum_by-put}
use Rattle.tree_model.proofs.Lookups.{rest_after-append, rest_after-some, origin, origin_of, at_origin, AreClearOf, AreClearOf-from_find, moved_entries, find-moved}
use Rattle.tree_model.proofs.TreeLaws.{same_id, same_route}
use Rattle.tree_model.proofs.TreeKept.{none_some, same_some}

abbrev pub path_in : ℕ → List (Route × ℕ) → Bool
path_in id es = list_any (λ e. e.1 == id) es

abbrev pub paths_in : ℕ → List (Route × ℕ) → ℕ
paths_in id es = count_by (λ e. e.1 == id) es

abbrev pub other_than : Route → Route → Bool
other_than path q = not (eq_by_cmp route_cmp path q)

none_counted : (id : ℕ) (es : List (Route × ℕ)) → not (path_in id es) ≡ (paths_in id es == 0)
none_counted id [] = refl
none_counted id (e ∷ es) =
    let rest = none_counted id es in
    let more = sum_by-cons (λ (x : Route × ℕ). cond (x.1 == id) 1 0) e es in
    elim (e.1 == id) as (λ b. paths_in id (e ∷ es) ≡ cond b 1 0 + paths_in id es → not (b || path_in id es) ≡ (paths_in id (e ∷ es) == 0)) [
      | true ↦ λ more. some (paths_in id (e ∷ es)) (paths_in id es) more
      | false ↦ λ more. rest ∙ ap (λ n. n == 0) (let same : paths_in id es ≡ paths_in id (e ∷ es) = omega (arith, more) in same)
    ] more
  where
    some : (n m : ℕ) → n ≡ 1 + m → false ≡ (n == 0)
    some n m e = grind (arith, nat_tests)

-- ---- without a path

module _ (path : Route) where
  kept_all : (es : List (Route × ℕ)) → find route_cmp path es ≡ None → where_key route_cmp (other_than path) es ≡ es
  kept_all [] none = refl
  kept_all (e ∷ es) none =
      elim (eq_by_cmp route_cmp path e.0) as (λ b. cond b (Some e.1) (find route_cmp path es) ≡ None → cond (not b) (e ∷ where_key route_cmp (other_than path) es) (where_key route_cmp (other_than path) es) ≡ e ∷ es) [
        | true ↦ λ none. none_some e.1 (sym none)
        | false ↦ λ none. ap (λ l. e ∷ l) (kept_all es none)
      ] none

  -- the id that the path named has one less
  one_less : (id : ℕ) (es : List (Route × ℕ)) → T (is_sorted route_cmp es) → find route_cmp path es ≡ Some id → paths_in id (where_key route_cmp (other_than path) es) + 1 ≡ paths_in id es
  one_less id [] h found = none_some id found
  one_less id (e ∷ es) h found =
      let test : Route × ℕ → ℕ = λ x. cond (x.1 == id) 1 0 in
      let more = sum_by-cons test e es in
      elim (eq_by_cmp route_cmp path e.0) as (λ b. eq_by_cmp route_cmp path e.0 ≡ b → cond b (Some e.1) (find route_cmp path es) ≡ Some id
      → paths_in id (cond (not b) (e ∷ where_key route_cmp (other_than path) es) (where_key route_cmp (other_than path) es)) + 1 ≡ paths_in id (e ∷ es)) [
        | true ↦ λ is found.
            let none = ap (λ q. find route_cmp q es) (same_route path e.0 is) ∙ find-below route_cmp e.0 es (front _ _ h) in
            let same = ap (paths_in id) (kept_all es none) in
            let one : test e ≡ 1 = ap (λ b. cond b 1 0) (equal_test e.1 id (same_some e.1 id found)) in
            let all : paths_in id (where_key route_cmp (other_than path) es) + 1 ≡ paths_in id (e ∷ es) = omega (arith, more, same, one) in all
        | false ↦ λ is found.
            let rest : paths_in id (where_key route_cmp (other_than path) es) + 1 ≡ paths_in id es = one_less id es (back _ _ h) found in
            let kept = sum_by-cons test e (where_key route_cmp (other_than path) es) in
            let all : paths_in id (e ∷ where_key route_cmp (other_than path) es) + 1 ≡ paths_in id (e ∷ es) = omega (arith, more, rest, kept) in all
      ] refl found
    where
      equal_test : (a b : ℕ) → a ≡ b → a == b ≡ true
      equal_test a b e = grind (arith, nat_tests)

pub path_count-without_path : (T' : Tree) (path : Route) (id : ℕ) → id_at T' path ≡ Some id → path_count (without_path T' path) id + 1 ≡ path_count T' id
path_count-without_path T' path id named = one_less path id T'.names.entries T'.names.sorted named

pub path_count-absent : (T' : Tree) (path : Route) (id : ℕ) → id_at T' path ≡ None → path_count (without_path T' path) id ≡ path_count T' id
path_count-absent T' path id absent = ap (paths_in id) (kept_all path T'.names.entries absent)

-- ---- after a move

origin-moved : (from to p : Route) (o : Option Route) → rest_after from p ≡ o → rest_after to p ≡ None → origin_of from to (moved_path to o p) ≡ Some p
origin-moved from to p (Some rest) is outside =
    ap (λ b. origin from b (is_some (rest_after from (to ++ rest))) (to ++ rest)) (rest_after-append to rest) ∙ ap Some (sym (rest_after-some from p rest is))
origin-moved from to p None is outside =
    ap (λ b. origin from b (is_some (rest_after from p)) p) outside ∙ ap (λ c. origin from None (is_some c) p) is

count_moved : (from to : Route) (id : ℕ) (es : List (Route × ℕ)) → T (is_sorted route_cmp es) → AreClearOf to es
    → paths_in id (table_of route_cmp_total (moved_entries from to es)).entries ≡ paths_in id es
count_moved from to id [] h outside = refl
count_moved from to id (e ∷ es) h outside =
    let one : ℕ → ℕ = λ x. cond (x == id) 1 0 in
    let key = moved_path to (rest_after from e.0) e.0 in
    let moved = moved_entries from to es in
    let made = table_of route_cmp_total moved in
    let absent : find route_cmp key made.entries ≡ None =
    get-table_of route_cmp_total moved key ∙ find-moved from to key es outside.1
    ∙ ap (λ o. at_origin o es) (origin-moved from to e.0 (rest_after from e.0) refl outside.0) ∙ find-below route_cmp e.0 es (front _ _ h) in
    let placed = sum_by-put route_cmp route_cmp_total one key e.1 made.entries made.sorted in
    let nothing : measure_found one (find route_cmp key made.entries) ≡ 0 = ap (measure_found one) absent in
    let more = sum_by-cons (λ (x : Route × ℕ). one x.1) e es in
    let rest : paths_in id made.entries ≡ paths_in id es = count_moved from to id es (back _ _ h) outside.1 in
    omega (arith, placed, nothing, more, rest)

-- each id has as many paths as before, where no path begins with the new one
pub path_count-with_moved : (T' : Tree) (from to : Route) (id : ℕ) → ((p : Route) → is_some (id_at T' p) ≡ true → rest_after to p ≡ None)
    → path_count (with_moved T' from to) id ≡ path_count T' id
path_count-with_moved T' from to id clear = count_moved from to id T'.names.entries T'.names.sorted (AreClearOf-from_find to T'.names.entries clear)

-- ---- the nodes that stay

node_kept : (T' : Tree) (i : ℕ) → node_at (without_unnamed T') i ≡ cond (path_in i T'.names.entries) (node_at T' i) None
node_kept T' i = get-retain T'.nodes (λ id. list_any (λ e. e.1 == id) T'.names.entries) i (λ x e. ap (λ id. path_in id T'.names.entries) (sym (same_id i x (ap is_eq e))))

-- a node goes exactly where its id has no path
pub gone-where_unnamed : (T' : Tree) (id : ℕ) (node : Node) → node_at T' id ≡ Some node → is_none (node_at (without_unnamed T') id) ≡ (path_count T' id == 0)
gone-where_unnamed T' id node there =
    ap is_none (node_kept T' id ∙ ap (λ o. cond (path_in id T'.names.entries) o None) there) ∙ either (path_in id T'.names.entries) node ∙ none_counted id T'.names.entries
  where
    either : (b : Bool) (n : Node) → is_none (cond b (Some n) None) ≡ not b
    either true n = refl
    either false n = refl

-- a node that has a path stays, and where there is none, none comes
pub node_at-without_unnamed : (T' : Tree) (id : ℕ) → (is_some (node_at T' id) ≡ true → 1 ≤ path_count T' id) → node_at (without_unnamed T') id ≡ node_at T' id
node_at-without_unnamed T' id some = node_kept T' id ∙ stays (path_in id T'.names.entries) (path_count T' id) (none_counted id T'.names.entries) (node_at T' id) some
  where
    stays : (b : Bool) (n : ℕ) → not b ≡ (n == 0) → (o : Option Node) → (is_some o ≡ true → 1 ≤ n) → cond b o None ≡ o
    stays true n e o some = refl
    stays false n e None some = refl
    stays false n e (Some node) some = absurd (none_counted_here n e (some refl))
      where
        none_counted_here : (n : ℕ) → true ≡ (n == 0) → 1 ≤ n → ⊥
        none_counted_here n e some = grind (arith, nat_tests)

pub path_count-node : (T' : Tree) (t : IsTree T') (id : ℕ) (node : Node) → node_at T' id ≡ Some node → 1 ≤ path_count T' id
path_count-node T' t id node there =
    let path = t.named id (ap is_some there) in
    let less = path_count-without_path T' path.0 id path.1 in
    omega (arith, less)

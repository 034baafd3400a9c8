-- What is found at each path after a path moved with all below it.
use Rattle.std.proofs.Common.{◌≡◌, ℕ, Bool, true, false, cond, List, [], ◌∷◌, ◌++◌, map, Option, Some, None, is_some, bytes_eq, refl, sym, ap, ◌∙◌, T}
use Rattle.std.specs.Cmp.Lexicographic.{nat_list_eq_equiv, bytes_decides}
use Rattle.std.specs.FinMap.{find}
use Rattle.tree_model.specs.PathText.{Route}
use Rattle.tree_model.proofs.TableLaws.{get-table_of}
use Rattle.tree_model.specs.Tree.{Tree, route_cmp, route_cmp_total, rest_after, id_at}
use Rattle.tree_model.specs.Step.{with_moved, moved_path}
use Rattle.tree_model.proofs.TreeLaws.{is_same, same_route, is_same_itself, not_true}

pub same_test : (a b : Bool) → (a ≡ true → b ≡ true) → (b ≡ true → a ≡ true) → a ≡ b
same_test true b f g = sym (f refl)
same_test false true f g = g refl
same_test false false f g = refl

-- ---- prefixes

same_name : (x y : List ℕ) → bytes_eq x y ≡ true → x ≡ y
same_name x y = (bytes_decides x y).0

pub rest_after-append : (front rest : Route) → rest_after front (front ++ rest) ≡ Some rest
rest_after-append [] rest = refl
rest_after-append (name ∷ front) rest =
    ap (λ t. cond t (rest_after front (front ++ rest)) None) (nat_list_eq_equiv.refl name) ∙ rest_after-append front rest

test_some : (t : Bool) (x : Option Route) (rest : Route) → cond t x None ≡ Some rest → (t ≡ true) × (x ≡ Some rest)
test_some true x rest e = (refl, e)
test_some false x rest e = cc

pub rest_after-some : (front path rest : Route) → rest_after front path ≡ Some rest → path ≡ front ++ rest
rest_after-some [] path rest e = cc
rest_after-some (name ∷ front) [] rest e = cc
rest_after-some (name ∷ front) (first ∷ path) rest e =
    let both = test_some (bytes_eq name first) (rest_after front path) rest e in
    let one = same_name name first both.0 in
    let more = rest_after-some front path rest both.1 in cc

pub append_cancel : (front a b : Route) → front ++ a ≡ front ++ b → a ≡ b
append_cancel front a b e =
    let same : ◌≡◌ {A = Option Route} (Some a) (Some b) = sym (rest_after-append front a) ∙ ap (rest_after front) e ∙ rest_after-append front b in cc

-- ---- a path moved with all below it

-- where what is at a path after the move was before it
abbrev pub origin : Route → Option Route → Bool → Route → Option Route
origin from (Some rest) left q = Some (from ++ rest)
origin from None true q = None
origin from None false q = Some q

abbrev pub origin_of : Route → Route → Route → Option Route
origin_of from to q = origin from (rest_after to q) (is_some (rest_after from q)) q

abbrev pub at_origin : Option Route → List (Route × ℕ) → Option ℕ
at_origin None es = None
at_origin (Some p) es = find route_cmp p es

is_origin : Option Route → Route → Bool
is_origin None k = false
is_origin (Some p) k = is_same p k

at_origin-cons : (o : Option Route) (e : Route × ℕ) (es : List (Route × ℕ)) → at_origin o (e ∷ es) ≡ cond (is_origin o e.0) (Some e.1) (at_origin o es)
unfolding is_origin
at_origin-cons None e es = refl
at_origin-cons (Some p) e es = refl

apart : {A : Type 0} (rest : Route) → ◌≡◌ {A = Option Route} None (Some rest) → A
apart rest e = cc

module _ (from to : Route) where
  moved_test : (q k : Route) (a b c : Option Route) → rest_after from k ≡ a → rest_after to q ≡ b → rest_after from q ≡ c → rest_after to k ≡ None
      → is_same q (moved_path to a k) ≡ is_origin (origin from b (is_some c) q) k
  unfolding is_origin
  moved_test q k (Some s) (Some r) c ka qb qc clear =
      let k_is = rest_after-some from k s ka in
      let q_is = rest_after-some to q r qb in
      same_test _ _
      (λ e. is_same_itself _ _ (ap (λ x. from ++ x) (append_cancel to r s (sym q_is ∙ same_route _ _ e)) ∙ sym k_is))
      (λ e. is_same_itself _ _ (q_is ∙ ap (λ x. to ++ x) (append_cancel from r s (same_route _ _ e ∙ k_is))))
  moved_test q k (Some s) None (Some t) ka qb qc clear =
      not_true _ (λ e. apart s (sym qb ∙ ap (rest_after to) (same_route _ _ e) ∙ rest_after-append to s))
  moved_test q k (Some s) None None ka qb qc clear =
      not_true _ (λ e. apart s (sym qb ∙ ap (rest_after to) (same_route _ _ e) ∙ rest_after-append to s))
      ∙ sym (not_true _ (λ e. apart s (sym qc ∙ ap (rest_after from) (same_route _ _ e) ∙ ka)))
  moved_test q k None (Some r) c ka qb qc clear =
      not_true _ (λ e. apart r (sym clear ∙ ap (rest_after to) (sym (same_route _ _ e)) ∙ qb))
      ∙ sym (not_true _ (λ e. apart r (sym ka ∙ ap (rest_after from) (sym (same_route _ _ e)) ∙ rest_after-append from r)))
  moved_test q k None None (Some t) ka qb qc clear =
      not_true _ (λ e. apart t (sym ka ∙ ap (rest_after from) (sym (same_route _ _ e)) ∙ qc))
  moved_test q k None None None ka qb qc clear = refl

-- no path of the entries begins with this one
abbrev pub AreClearOf : Route → List (Route × ℕ) → Type 0
AreClearOf to [] = Unit {0}
AreClearOf to (e ∷ es) = (rest_after to e.0 ≡ None) × AreClearOf to es

any_some : (t : Bool) (v : ℕ) (o : Option ℕ) → is_some o ≡ true → is_some (cond t (Some v) o) ≡ true
any_some true v o h = refl
any_some false v o h = h

pub AreClearOf-from_find : (to : Route) (es : List (Route × ℕ)) → ((p : Route) → is_some (find route_cmp p es) ≡ true → rest_after to p ≡ None) → AreClearOf to es
AreClearOf-from_find to [] clear = tt
AreClearOf-from_find to (e ∷ es) clear = (
  clear e.0 (ap (λ t. is_some (cond t (Some e.1) (find route_cmp e.0 es))) (is_same_itself e.0 e.0 refl)),
  AreClearOf-from_find to es (λ p h. clear p (any_some (is_same p e.0) e.1 (find route_cmp p es) h)),
)

abbrev pub moved_entries : Route → Route → List (Route × ℕ) → List (Route × ℕ)
moved_entries from to es = map (λ e. (moved_path to (rest_after from e.0) e.0, e.1)) es

pub find-moved : (from to q : Route) (es : List (Route × ℕ)) → AreClearOf to es → find route_cmp q (moved_entries from to es) ≡ at_origin (origin_of from to q) es
find-moved from to q [] clear = elim (origin_of from to q) as (λ o. None ≡ at_origin o []) [ None ↦ refl | Some p ↦ refl ]
find-moved from to q (e ∷ es) clear =
    ap (λ t. cond t (Some e.1) (find route_cmp q (moved_entries from to es)))
    (moved_test from to q e.0 (rest_after from e.0) (rest_after to q) (rest_after from q) refl refl refl clear.0)
    ∙ ap (λ rest. cond (is_origin (origin_of from to q) e.0) (Some e.1) rest) (find-moved from to q es clear.1)
    ∙ sym (at_origin-cons (origin_of from to q) e es)

-- what a path names after a move: what its origin named. Nothing may have begun with the new path before.
pub id_at-with_moved : (T : Tree) (from to q : Route) → ((p : Route) → is_some (id_at T p) ≡ true → rest_after to p ≡ None)
    → id_at (with_moved T from to) q ≡ at_origin (origin_of from to q) T.names.entries
id_at-with_moved T from to q clear =
    get-table_of route_cmp_total (moved_entries from to T.names.entries) q
    ∙ find-moved from to q T.names.entries (AreClearOf-from_find to T.names.entries clear)

-- Tests that agree on each id that is found in a list of entries pass as many.
use Rattle.std.proofs.Common.{◌≡◌, ℕ, ◌+◌, Bool, true, false, cond, T, List, [], ◌∷◌, count_by, Some, refl, sym, ap, ◌∙◌}
use Rattle.std.proofs.lemmas.List.Sums.{sum_by-cons}
use Rattle.std.specs.FinMap.Entries.{find, is_sorted}
use Rattle.tree_model.specs.PathText.{Route}
use Rattle.tree_model.specs.Tree.{route_cmp, route_cmp_total}
use Rattle.tree_model.proofs.EntryLaws.{front, back, find-below, find-first}
use Rattle.tree_model.proofs.TreeKept.{none_some}
use Rattle.tree_model.proofs.TreeLaws.{is_same, same_route}

pub count_agrees : (f g : ℕ → Bool) (es : List (Route × ℕ)) → T (is_sorted route_cmp es) → ((q : Route) (i : ℕ) → find route_cmp q es ≡ Some i → f i ≡ g i)
    → count_by (λ e. f e.1) es ≡ count_by (λ e. g e.1) es
count_agrees f g [] sorted agree = refl
count_agrees f g (e ∷ es) sorted agree =
    let here = agree e.0 e.1 (find-first route_cmp route_cmp_total e es) in
    let rest = count_agrees f g es (back _ _ sorted) (λ q i found. agree q i (still q i (is_same q e.0) refl found)) in
    sum_by-cons (λ (x : Route × ℕ). cond (f x.1) 1 0) e es ∙ (λ k. cond (here k) 1 0 + rest k) ∙ sym (sum_by-cons (λ (x : Route × ℕ). cond (g x.1) 1 0) e es)
  where
    still : (q : Route) (i : ℕ) (b : Bool) → is_same q e.0 ≡ b → find route_cmp q es ≡ Some i → cond b (Some e.1) (find route_cmp q es) ≡ Some i
    still q i true same found = none_some i (sym (find-below route_cmp e.0 es (front _ _ sorted)) ∙ ap (λ p. find route_cmp p es) (sym (same_route q e.0 same)) ∙ found)
    still q i false other found = found

none_passes : (es : List (Route × ℕ)) → count_by (λ e. false) es ≡ 0
none_passes [] = refl
none_passes (e ∷ es) = sum_by-cons (λ (x : Route × ℕ). 0) e es ∙ ap (λ n. 0 + n) (none_passes es)

pub count_none : (f : ℕ → Bool) (es : List (Route × ℕ)) → T (is_sorted route_cmp es) → ((q : Route) (i : ℕ) → find route_cmp q es ≡ Some i → f i ≡ false) → count_by (λ e. f e.1) es ≡ 0
count_none f es sorted fails = count_agrees f (λ i. false) es sorted fails ∙ none_passes es

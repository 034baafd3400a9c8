-- Whether two paths are one, name by name.
use Rattle.std.proofs.Common.{◌≡◌, ◌≢◌, ℕ, zero, suc, ◌+◌, ◌-◌, ◌<◌, ◌≤◌, ◌&&◌, nat_eq, Bool, true, false, true≢false, List, [], ◌∷◌, length, take, drop, get_or, eqb, refl, sym, ap, ◌∙◌, arith}
use lib.Pointwise.{pointwise}
use Rattle.std.proofs.lemmas.Bool.Decides.{nat_tests}
use Rattle.std.proofs.lemmas.List.{length-take-le}
use Rattle.std.specs.Cmp.Lexicographic.{nat_list_eq_equiv, bytes_decides}
use Rattle.tree_model.specs.PathText.{Route}
use Rattle.tree_model.specs.Tree.{parent}
use Rattle.tree_model.proofs.TreeLaws.{is_same, same_route, is_same_itself, other_route}
use Rattle.tree_model.proofs.Lookups.{same_test}

same_name : (x y : List ℕ) → pointwise eqb x y ≡ true → x ≡ y
same_name x y = (bytes_decides x y).0

head_or : List ℕ → Route → List ℕ
head_or d [] = d
head_or d (x ∷ p) = x

tail : Route → Route
tail [] = []
tail (x ∷ p) = p

pub other_length : (p q : Route) → (length p ≢ length q) → false ≡ is_same p q
other_length p q differ = sym (other_route p q (λ e. differ (ap length e)))

heads_apart : (x y : List ℕ) (p q : Route) → (x ≢ y) → x ∷ p ≡ y ∷ q → ⊥
unfolding head_or
heads_apart x y p q differ e = differ (ap (head_or x) e)

pub other_head : (x y : List ℕ) (p q : Route) → (x ≢ y) → is_same (x ∷ p) (y ∷ q) ≡ false
other_head x y p q differ = other_route (x ∷ p) (y ∷ q) (heads_apart x y p q differ)

pub same_head : (x y : List ℕ) (p q : Route) → x ≡ y → is_same (x ∷ p) (y ∷ q) ≡ is_same p q
unfolding tail
same_head x y p q same = same_test (is_same (x ∷ p) (y ∷ q)) (is_same p q)
    (λ e. is_same_itself p q (ap tail (same_route (x ∷ p) (y ∷ q) e)))
    (λ e. is_same_itself (x ∷ p) (y ∷ q) (let tails = same_route p q e in cc))

-- the test of equal names is the test of the order
pub routes_test : (p q : Route) → pointwise (pointwise eqb) p q ≡ is_same q p
routes_test [] [] = refl
routes_test [] (y ∷ q) = refl
routes_test (x ∷ p) [] = refl
routes_test (x ∷ p) (y ∷ q) =
    elim (pointwise eqb x y) as (λ t. pointwise eqb x y ≡ t → (t && pointwise (pointwise eqb) p q) ≡ is_same (y ∷ q) (x ∷ p)) [
      | true ↦ λ is. routes_test p q ∙ sym (same_head y x q p (sym (same_name x y is)))
      | false ↦ λ is. sym (other_head y x q p (λ e. true≢false (sym (nat_list_eq_equiv.refl x) ∙ ap (pointwise eqb x) (sym e) ∙ is)))
    ] refl

module _ (x : List ℕ) (route : Route) where
  all : suc (length route) - 0 ≡ suc (length route)
  all = omega arith

  one_less : suc (length route) - 1 ≡ length route
  one_less = omega arith

  later : (i : ℕ) (names : Route) (side : Bool) → is_same (take (length route - i) names) (drop i route) ≡ side
      → is_same (take (suc (length route) - suc i) names) (drop (suc i) (x ∷ route)) ≡ side
  later i names side is = let less : suc (length route) - suc i ≡ length route - i = omega arith in
      ap (λ n. is_same (take n names) (drop i route)) less ∙ is

  later_still : (i : ℕ) (rest : Route) → is_same (take (suc (length route) - (suc i + 1)) rest) (drop (suc i + 1) (x ∷ route)) ≡ is_same (take (length route - (i + 1)) rest) (drop (i + 1) route)
  later_still i rest =
      let one : suc i + 1 ≡ suc (i + 1) = omega arith in
      let less : suc (length route) - suc (i + 1) ≡ length route - (i + 1) = omega arith in
      ap (λ k. is_same (take (suc (length route) - k) rest) (drop k (x ∷ route))) one ∙ ap (λ n. is_same (take n rest) (drop (i + 1) route)) less

-- one name more of a path that is compared from its start
pub next_name : (i : ℕ) (route names rest : Route) (next name : List ℕ) → i < length route → names ≡ next ∷ rest → name ≡ get_or route i name → next ≡ name
    → is_same (take (length route - i) names) (drop i route) ≡ is_same (take (length route - (i + 1)) rest) (drop (i + 1) route)
next_name i [] names rest next name low there is same = let no : ⊥ = omega arith in absurd no
next_name zero (x ∷ route) names rest next name low there is same =
    ap (λ n. is_same (take n names) (x ∷ route)) (all x route) ∙ ap (λ ns. is_same (take (suc (length route)) ns) (x ∷ route)) there
    ∙ same_head next x (take (length route) rest) route (same ∙ is) ∙ ap (λ n. is_same (take n rest) route) (sym (one_less x route))
next_name (suc i) (x ∷ route) names rest next name low there is same =
    later x route i names _ (next_name i route names rest next name (omega arith) there is same) ∙ sym (later_still x route i rest)

pub next_other : (i : ℕ) (route names rest : Route) (next name : List ℕ) → i < length route → names ≡ next ∷ rest → name ≡ get_or route i name → (next ≢ name)
    → is_same (take (length route - i) names) (drop i route) ≡ false
next_other i [] names rest next name low there is differ = let no : ⊥ = omega arith in absurd no
next_other zero (x ∷ route) names rest next name low there is differ =
    ap (λ n. is_same (take n names) (x ∷ route)) (all x route) ∙ ap (λ ns. is_same (take (suc (length route)) ns) (x ∷ route)) there
    ∙ other_head next x (take (length route) rest) route (λ e. differ (e ∙ sym is))
next_other (suc i) (x ∷ route) names rest next name low there is differ = later x route i names false (next_other i route names rest next name (omega arith) there is differ)

pub no_next : (i : ℕ) (route names : Route) → i < length route → names ≡ [] → is_same (take (length route - i) names) (drop i route) ≡ false
no_next i [] names low there = let no : ⊥ = omega arith in absurd no
no_next zero (x ∷ route) names low there =
    ap (λ n. is_same (take n names) (x ∷ route)) (all x route) ∙ ap (λ ns. is_same (take (suc (length route)) ns) (x ∷ route)) there
no_next (suc i) (x ∷ route) names low there = later x route i names false (no_next i route names (omega arith) there)

-- ---- what the code's tests of names say

pub same_names : (x y : List ℕ) → true ≡ pointwise eqb x y → x ≡ y
same_names x y e = same_name x y (sym e)

pub other_names : (x y : List ℕ) → false ≡ pointwise eqb x y → x ≡ y → ⊥
other_names x y e same = true≢false (sym (nat_list_eq_equiv.refl x) ∙ ap (pointwise eqb x) same ∙ sym e)

not_equal : (a b : ℕ) → (a ≢ b) → nat_eq a b ≡ false
not_equal a b e = grind (arith, nat_tests)

pub other_count : (count : ℕ) (path route : Route) → count ≤ length path → (length route ≢ count) → nat_eq (length route) count ≡ is_same (take count path) route
other_count count path route within differ =
    let long = length-take-le count path within in
    (not_equal (length route) count differ) ∙ other_length (take count path) route (λ e. differ (sym e ∙ long))

-- ---- the path without its last name

pub parent-is_front : (route : Route) → take (length route - 1) route ≡ parent route
parent-is_front [] = refl
parent-is_front (name ∷ []) = refl
parent-is_front (name ∷ next ∷ route) =
    let less : length (name ∷ next ∷ route) - 1 ≡ suc (length (next ∷ route) - 1) = omega arith in
    ap (λ n. take n (name ∷ next ∷ route)) less ∙ ap (λ front. name ∷ front) (parent-is_front (next ∷ route))

-- Whether a route is a front of a path, by how many names both have.
use Rattle.std.proofs.Common.{◌≡◌, ℕ, ◌-◌, ◌≤◌, nat_eq, Bool, true, false, List, [], ◌∷◌, Option, Some, None, length, take, refl, sym, ap, ◌∙◌, arith}
use Rattle.std.specs.Prelude.{MatchOption}
use Rattle.std.proofs.lemmas.Bool.{eqb-true}
use Rattle.std.proofs.lemmas.List.{length-take-le}
use Rattle.std.proofs.lemmas.Bool.Decides.{nat_tests}
use Rattle.tree_model.specs.PathText.{Route}
use Rattle.tree_model.specs.Tree.{parent}
use Rattle.tree_model.proofs.TreeLaws.{is_same}
use Rattle.plain_tree.specs.Fronts.{front_of, IsWithin}
use Rattle.plain_tree.specs.declared.fronts.Front.{Front}
use Rattle.plain_tree.specs.declared.fronts.Front.TheVariants.{Whole, Parent, First}
use Rattle.plain_tree.proofs.RouteLaws.{other_length, parent-is_front}

-- all names of a path
pub take-all : (path : Route) → take (length path) path ≡ path
take-all [] = refl
take-all (name ∷ path) = ap (λ p. name ∷ p) (take-all path)

-- the names of the parent are all but the last
pub length-parent : (path : Route) → length (parent path) ≡ length path - 1
length-parent path = let few : length path - 1 ≤ length path = omega arith in
    ap length (sym (parent-is_front path)) ∙ length-take-le (length path - 1) path few

pub take-front : (front : Front) (path : Route) → IsWithin front path → take (length (front_of front path)) path ≡ front_of front path
take-front Whole path within = take-all path
take-front Parent path within = ap (λ n. take n path) (length-parent path) ∙ parent-is_front path
take-front (First count) path within = ap (λ n. take n path) (length-take-le count path within)

differ : (a b : ℕ) → nat_eq a b ≡ false → a ≡ b → ⊥
differ a b other same = grind (arith, nat_tests)

-- as many names, and each the same
pub is_front_then : (front : Front) (path route : Route) (same is_long : Bool) → IsWithin front path → same ≡ is_same (take (length route) path) route
    → is_long ≡ nat_eq (length (front_of front path)) (length route) → is_long ≡ true → same ≡ is_same (front_of front path) route
is_front_then front path route same is_long within e counted long =
    e ∙ ap (λ n. is_same (take n path) route) (sym (eqb-true (length (front_of front path)) (length route) (sym counted ∙ long)))
    ∙ ap (λ p. is_same p route) (take-front front path within)

pub is_front_else : (front : Front) (path route : Route) (is_long : Bool)
    → is_long ≡ nat_eq (length (front_of front path)) (length route) → is_long ≡ false → is_long ≡ is_same (front_of front path) route
is_front_else front path route is_long counted long =
    long ∙ other_length (front_of front path) route (differ (length (front_of front path)) (length route) (sym counted ∙ long))

-- ---- what a step along the names of a path leaves

abbrev pub Steps : Option (List ℕ) → Route → Route → Type 0
Steps next names left = MatchOption next ((names ≡ []) × (left ≡ [])) (λ name. names ≡ name ∷ left)

pub behind : (next : Option (List ℕ)) (names left : Route) → Steps next names left → length left ≡ length (parent names)
behind None names left steps = ap length steps.1 ∙ ap (λ p. length (parent p)) (sym steps.0)
behind (Some name) names left steps =
    let less : length left ≡ length (name ∷ left) - 1 = omega arith in
    less ∙ ap (λ p. length p - 1) (sym steps) ∙ sym (length-parent names)

pub behind-within : (next : Option (List ℕ)) (names left : Route) → Steps next names left → length left ≤ length names
behind-within next names left steps =
    let is = behind next names left steps in
    let parent_is = length-parent names in omega (arith, is, parent_is)

pub behind-is : (next : Option (List ℕ)) (names left : Route) → Steps next names left → take (length left) names ≡ parent names
behind-is next names left steps = ap (λ n. take n names) (behind next names left steps) ∙ take-front Parent names tt

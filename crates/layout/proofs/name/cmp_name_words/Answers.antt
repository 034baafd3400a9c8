use Rattle.std.proofs.Common.{◌≡◌, List, ℕ, ◌-◌, length, drop, take, ap, ◌∙◌, arith, length-drop, take_all}
use Rattle.std.specs.Cmp.Lexicographic.{slice_cmp}
use Rattle.std.specs.Ordering.{nat_cmp}
use Rattle.std.specs.declared.cmp.Ordering.{Ordering}
use Rattle.layout.specs.Name.{bytes_of_words}
use Rattle.layout.proofs.NameOrder.{cmp_in_words}
use Rattle.layout.proofs.name.cmp_name_words.Goals as goal

-- what stands from the third byte on
from_third : (l : List ℕ) → take (length l - 2) (drop 2 l) ≡ drop 2 l
from_third l = take_all (length l - 2) (drop 2 l) (let e = length-drop 2 l in omega (arith, e))

-- the bytes behind the length, compared as the function does
same : (result : Ordering) (a b x y : List ℕ) → a ≡ x → b ≡ y → result ≡ slice_cmp nat_cmp (take (length a - 2) (drop 2 a)) (take (length b - 2) (drop 2 b))
    → result ≡ slice_cmp nat_cmp (drop 2 x) (drop 2 y)
same result a b x y is_x is_y e =
    e
    ∙ ap (λ (l : List ℕ). slice_cmp nat_cmp l (take (length b - 2) (drop 2 b))) (from_third a ∙ ap (drop 2) is_x)
    ∙ ap (λ (l : List ℕ). slice_cmp nat_cmp (drop 2 x) l) (from_third b ∙ ap (drop 2) is_y)

pub returns-clause-bytes : goal.returns-clause-bytes
returns-clause-bytes c =
    same c.cmp.result c.as_slice.result.now c.as_slice-2.result.now (bytes_of_words c.args.left.now) (bytes_of_words c.args.right.now)
    (c.as_slice.ensures.value ∙ c.bytes_of-before.ensures.items) (c.as_slice-2.ensures.value ∙ c.bytes_of-behind.ensures.items) c.cmp.ensures

pub returns-clause-names : goal.returns-clause-names
returns-clause-names c left right =
    same c.cmp.result c.as_slice.result.now c.as_slice-2.result.now (bytes_of_words c.args.left.now) (bytes_of_words c.args.right.now)
    (c.as_slice.ensures.value ∙ c.bytes_of-before.ensures.items) (c.as_slice-2.ensures.value ∙ c.bytes_of-behind.ensures.items) c.cmp.ensures
    ∙ cmp_in_words c.args.left.now c.args.right.now left right

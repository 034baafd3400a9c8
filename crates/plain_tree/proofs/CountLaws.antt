-- What is counted over a directory's names.
use Rattle.std.proofs.Common.{◌≡◌, ℕ, ◌+◌, ◌&&◌, ◌≢◌, Bool, true, false, cond, List, [], ◌∷◌, length, filter, count_by, refl, sym, ap, ◌∙◌, arith}
use Rattle.std.proofs.lemmas.List.Sums.{sum_by-cons}
use Rattle.tree_model.specs.PathText.{Route}
use Rattle.tree_model.specs.Tree.{Tree, id_at, is_in, is_number, parent}

first_of_filter : {X : Type 0} (p : X → Bool) (t : Bool) (x : X) (xs : List X) (n : ℕ) → count_by p xs ≡ n → count_by p (cond t (x ∷ xs) xs) ≡ cond (t && p x) 1 0 + n
first_of_filter p true x xs n is = sum_by-cons (λ y. cond (p y) 1 0) x xs ∙ ap (λ k. cond (p x) 1 0 + k) is
first_of_filter p false x xs n is = let none : n ≡ 0 + n = omega arith in is ∙ none

-- those of the filtered ones that pass are those that pass both tests
pub count_by-filter : {X : Type 0} (p q : X → Bool) (xs : List X) → count_by p (filter q xs) ≡ count_by (λ x. q x && p x) xs
count_by-filter p q [] = refl
count_by-filter p q (x ∷ xs) =
    first_of_filter p (q x) x (filter q xs) (count_by (λ y. q y && p y) xs) (count_by-filter p q xs)
    ∙ sym (sum_by-cons (λ y. cond (q y && p y) 1 0) x xs)

pub is_in-named : (T : Tree) (directory : ℕ) (route : Route) → (length route ≢ 0) → is_in T directory route ≡ is_number (id_at T (parent route)) directory
is_in-named T directory [] some = absurd (some refl)
is_in-named T directory (x ∷ route) some = refl

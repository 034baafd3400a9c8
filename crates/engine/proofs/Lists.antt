-- An element of a list that has more at its end.
use Rattle.std.proofs.Common.{◌≡◌, ◌⊎◌, inl, inr, ℕ, zero, suc, List, [], ◌∷◌, ◌++◌, length, refl, arith}
use Rattle.std.specs.Prelude.{Some, slice_get}

pub get_front : {A : Type 0} (xs more : List A) (k : ℕ) (found : A) → slice_get xs k ≡ Some found → slice_get (xs ++ more) k ≡ Some found
get_front [] more k found is = absurd (cc is)
get_front (y ∷ xs) more zero found is = is
get_front (y ∷ xs) more (suc k) found is = get_front xs more k found is

pub get_last : {A : Type 0} (xs : List A) (x : A) → slice_get (xs ++ x ∷ []) (length xs) ≡ Some x
get_last [] x = refl
get_last (y ∷ xs) x = grind (arith, get_last xs x)

-- the element of a list with one more is one of the list, or the one more
pub get_more : {A : Type 0} (xs : List A) (x : A) (k : ℕ) (found : A) → slice_get (xs ++ x ∷ []) k ≡ Some found → (slice_get xs k ≡ Some found) ⊎ ((k ≡ length xs) × (x ≡ found))
get_more [] x zero found is = inr (refl, cc is)
get_more [] x (suc k) found is = absurd (cc is)
get_more (y ∷ xs) x zero found is = inl is
get_more (y ∷ xs) x (suc k) found is = elim (get_more xs x k found is) [
  | inl before ↦ inl before
  | inr last ↦ inr (omega (arith, last.0), last.1)
]

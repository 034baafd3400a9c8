-- A number that a list contains stands in it.
use Rattle.std.proofs.Common.{inl, inr, ℕ, zero, suc, List, [], ◌∷◌, sym, arith}
use Rattle.std.specs.Prelude.{Contains}
use Rattle.std.proofs.lemmas.Bool.{cases_eq}
use Rattle.image_reading.specs.Counts.{IsIn}
use Rattle.image_counts.proofs.Decided.{IsDecided}

pub in_contained : (x : ℕ) (xs : List ℕ) → IsIn x xs → Contains xs x
in_contained x [] among = absurd among
in_contained x (y ∷ xs) among = elim among [
  | inl same ↦ (0, omega arith, sym same)
  | inr later ↦ let (k, lt, is) = in_contained x xs later in (suc k, omega arith, is)
]

pub contained_in : (x : ℕ) (xs : List ℕ) → Contains xs x → IsIn x xs
contained_in x [] (k, lt, is) = absurd (omega (arith, lt))
contained_in x (y ∷ xs) (zero, lt, is) = inl (sym is)
contained_in x (y ∷ xs) (suc k, lt, is) = inr (contained_in x xs (k, omega (arith, lt), is))

pub in_or_not : (x : ℕ) (xs : List ℕ) → IsDecided (IsIn x xs)
in_or_not x [] = inr (λ none. none)
in_or_not x (y ∷ xs) = elim (cases_eq x y) [
  | inl same ↦ inl (inl same)
  | inr other ↦ elim (in_or_not x xs) [
    | inl later ↦ inl (inr later)
    | inr none ↦ inr (λ among. elim among [ inl same ↦ other same | inr later ↦ none later ])
  ]
]

pub contained_or_not : (xs : List ℕ) (x : ℕ) → IsDecided (Contains xs x)
contained_or_not xs x = elim (in_or_not x xs) [ inl among ↦ inl (in_contained x xs among) | inr none ↦ inr (λ is. none (contained_in x xs is)) ]

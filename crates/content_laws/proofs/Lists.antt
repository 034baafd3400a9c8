-- Members of a list of numbers.
use Rattle.std.proofs.Common.{◌≡◌, ◌⊎◌, inl, inr, ℕ, zero, suc, ◌<◌, List, [], ◌∷◌, length, Some, slice_get, sym, arith}
use Rattle.std.specs.Prelude.{Contains}
use Rattle.std.proofs.lemmas.Bool.{cases_eq}
use Rattle.std.proofs.lemmas.Option.{slice_get_within, get_or_from_slice_get, slice_get-get_or}

pub contains_at : (xs : List ℕ) (k x : ℕ) → slice_get xs k ≡ Some x → Contains xs x
contains_at xs k x is = (k, slice_get_within xs k x is, get_or_from_slice_get xs k x x is)

pub place_of : (xs : List ℕ) (x : ℕ) → Contains xs x → (k : ℕ) × (k < length xs) × (slice_get xs k ≡ Some x)
place_of xs x (k, lt, is) = (k, lt, subst_some (slice_get-get_or xs k x lt) is)
  where
    subst_some : {y : ℕ} → slice_get xs k ≡ Some y → y ≡ x → slice_get xs k ≡ Some x
    subst_some e f = cc

contains_later : (y : ℕ) (ys : List ℕ) (x : ℕ) → Contains ys x → Contains (y ∷ ys) x
contains_later y ys x (k, lt, is) = (suc k, omega (arith, lt), is)

contains_by : (y : ℕ) (ys : List ℕ) (x : ℕ) → Contains (y ∷ ys) x → (x ≡ y) ⊎ Contains ys x
contains_by y ys x (zero, lt, is) = inl (sym is)
contains_by y ys x (suc k, lt, is) = inr (k, omega (arith, lt), is)

pub contains_none : (x : ℕ) → Contains [] x → ⊥
contains_none x (k, lt, is) = omega (arith, lt)

pub contains_or_not : (xs : List ℕ) (x : ℕ) → Contains xs x ⊎ (Contains xs x → ⊥)
contains_or_not [] x = inr (contains_none x)
contains_or_not (y ∷ ys) x = elim (cases_eq x y) [
  | inl e ↦ inl (0, omega arith, sym e)
  | inr ne ↦ elim (contains_or_not ys x) [
    | inl later ↦ inl (contains_later y ys x later)
    | inr none ↦ inr (λ has. elim (contains_by y ys x has) [ inl e ↦ ne e | inr later ↦ none later ])
  ]
]

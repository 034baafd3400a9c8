-- How many numbers have a property.
use Rattle.std.specs.Prelude.{◌≡◌, ◌↔◌, ◌⊎◌, ℕ, ◌+◌, ◌≤◌, List, [], ◌∷◌, length}

abbrev pub IsIn : ℕ → List ℕ → Type 0
IsIn x [] = ⊥
IsIn x (y ∷ ys) = (x ≡ y) ⊎ IsIn x ys

-- a list in which no number stands twice
abbrev pub IsDistinct : List ℕ → Type 0
IsDistinct [] = Unit {0}
IsDistinct (x ∷ xs) = (IsIn x xs → ⊥) × IsDistinct xs

-- exactly n numbers have Q
abbrev pub Count : (ℕ → Type 0) → ℕ → Type 0
Count Q n = (xs : List ℕ) × IsDistinct xs × ((x : ℕ) → IsIn x xs ↔ Q x) × (length xs ≡ n)

-- the list has the numbers that have Q, each once, and no other
pub record IsListOf (Q : ℕ → Type 0) (xs : List ℕ) : Type 0 where
  pub distinct : IsDistinct xs
  pub each : (x : ℕ) → IsIn x xs ↔ Q x

-- m and the number of those that have Q are at most n
abbrev pub AtMost : ℕ → (ℕ → Type 0) → ℕ → Type 0
AtMost m Q n = (xs : List ℕ) → IsDistinct xs → ((x : ℕ) → IsIn x xs → Q x) → m + length xs ≤ n

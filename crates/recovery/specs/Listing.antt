-- How a list of a plan grows with the number that a loop has come to.
use Rattle.std.specs.Prelude.{ℕ, ◌<◌, List}
use Rattle.recovery.specs.Plans.{IsListOf}

-- a number of the set, below the limit
pub record IsBelow (Q : ℕ → Type 0) (limit n : ℕ) : Type 0 where
  pub below : n < limit
  pub is : Q n

-- the list is that set below the limit, each number once, in rising order
abbrev pub IsListBelow : (ℕ → Type 0) → ℕ → List ℕ → Type 0
IsListBelow Q limit numbers = IsListOf (IsBelow Q limit) numbers

-- A set of free numbers: at each number from 0 on, whether it is free.
use Rattle.std.specs.Prelude.{◌≡◌, ℕ, ◌+◌, ◌≤◌, Bool, true, false, List, count_by, Some, slice_get, slice_set}

-- the number is one of the list's and free
abbrev pub IsFree : List Bool → ℕ → Type 0
IsFree numbers k = slice_get numbers k ≡ Some true

-- the number is free and no smaller one is
pub record IsLowest (numbers : List Bool) (k : ℕ) : Type 0 where
  pub free : IsFree numbers k
  pub least : (other : ℕ) → IsFree numbers other → k ≤ other

-- the number is free and not below this one, and no such smaller one is free
pub record IsNextFree (numbers : List Bool) (from k : ℕ) : Type 0 where
  pub reached : from ≤ k
  pub free : IsFree numbers k
  pub least : (other : ℕ) → from ≤ other → IsFree numbers other → k ≤ other

-- how many numbers are free
abbrev pub free_in : List Bool → ℕ
free_in numbers = count_by (λ is_free. is_free) numbers

-- The number is taken, and no other changes.
pub record Takes (k : ℕ) (old new : List Bool) : Type 0 where
  pub numbers : new ≡ slice_set old k false
  pub taken : ¬ IsFree new k
  pub count : free_in new + 1 ≡ free_in old

-- The number is given back, and no other changes.
pub record Gives (k : ℕ) (old new : List Bool) : Type 0 where
  pub numbers : new ≡ slice_set old k true
  pub free : IsFree new k
  pub count : free_in new ≡ free_in old + 1

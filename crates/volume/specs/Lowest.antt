-- The lowest numbers of some.
use Rattle.std.specs.Prelude.{◌≡◌, ℕ, ◌<◌, List, length, Contains, Option, Some, None}
use Rattle.std.specs.List.{AllPairs}
use Rattle.layout.specs.Geometry.{page_of_slot}
use Rattle.layout.specs.Fields.{slot_inode}

-- the lowest number that has Q, where one has it
abbrev pub IsLowestOf : (ℕ → Type 0) → Option ℕ → Type 0
IsLowestOf Q None = (k : ℕ) → ¬ Q k
IsLowestOf Q (Some k) = Q k × ((other : ℕ) → other < k → ¬ Q other)

-- the lowest numbers that have Q, so many of them, in rising order
pub record AreLowestOf (Q : ℕ → Type 0) (count : ℕ) (numbers : List ℕ) : Type 0 where
  pub count_is : length numbers ≡ count
  pub rising : AllPairs (λ earlier later. earlier < later) numbers
  pub each : (k : ℕ) → Contains numbers k → Q k
  pub lowest : (k other : ℕ) → Contains numbers k → other < k → Q other → Contains numbers other

-- a slot of one of these pages that names nothing
abbrev pub IsVacantAmong : ℕ → List ℕ → List ℕ → ℕ → Type 0
IsVacantAmong P I pages slot = Contains pages (page_of_slot slot) × (slot_inode P I slot ≡ 0)

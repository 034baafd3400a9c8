-- A list of marks, one a number.
use Rattle.std.specs.Prelude.{ℕ, ◌+◌, Bool, true, false, IsTrue, List, [], ◌∷◌, slice_index_or}

-- number i is marked
abbrev pub IsMarked : List Bool → ℕ → Type 0
IsMarked marks i = IsTrue (slice_index_or marks i false)

-- how many are marked
abbrev pub marked : List Bool → ℕ
marked [] = 0
marked (false ∷ xs) = marked xs
marked (true ∷ xs) = marked xs + 1

-- What a write leaves in a writer of the standard library.
use Rattle.std.specs.Prelude.{ℕ, ◌≤◌, List, length, take, Option, Result, MatchResult}
use Rattle.std.specs.Io.KnownBytes.{Appends}

-- where a writer's bytes are known, they grew by a prefix of the piece, which may be empty or whole
pub record MayAppend (old new : Option (List ℕ)) (piece : List ℕ) : Type 0 where
  pub count : ℕ
  pub within : count ≤ length piece
  pub appends : Appends old new (take count piece)

-- they grew by the bytes that were taken; after a failed write or flush by any prefix of the piece
abbrev pub WritesThrough : {E : Type 0} → Option (List ℕ) → Option (List ℕ) → List ℕ → Result ℕ E → Type 0
WritesThrough old new piece result =
    MatchResult result (λ count. Appends old new (take count piece)) (λ _. MayAppend old new piece)

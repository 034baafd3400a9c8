-- Where a byte stands among bytes.
use Rattle.std.specs.Prelude.{◌≡◌, ℕ, ◌+◌, ◌<◌, ◌==◌, false, List, ◌∷◌, ◌++◌, length, take, drop}
use Rattle.std.specs.List.{All}

-- the byte does not stand among the bytes
abbrev pub Lacks : ℕ → List ℕ → Type 0
Lacks byte bytes = All (λ b. (b == byte) ≡ false) bytes

-- the first of these bytes stands here
pub record BreaksAt (byte : ℕ) (bytes : List ℕ) (place : ℕ) : Type 0 where
  pub within : place < length bytes
  pub before : Lacks byte (take place bytes)
  pub split : bytes ≡ take place bytes ++ byte ∷ drop (place + 1) bytes

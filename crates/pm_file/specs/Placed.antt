-- A file that tells its bytes.
use Rattle.std.specs.Prelude.{◌≡◌, ◌⊎◌, ℕ, ◌+◌, ◌*◌, ◌<◌, ◌≤◌, List, ◌++◌, length, slice_index, Option, Some, None, ⊤}
use Rattle.byteorder.specs.Endian.{little_from}

-- where the file tells its bytes, these are the ones from a place on
abbrev pub HasBytes : Option (List ℕ) → ℕ → List ℕ → Type 0
HasBytes None place read = ⊤
HasBytes (Some bytes) place read = (k : ℕ) → k < length read → slice_index read k ≡ slice_index bytes (place + k)

-- from a place on these bytes stand, and all else is as it was
pub record AddsBytes (before after : List ℕ) (place : ℕ) (run : List ℕ) : Type 0 where
  pub given : (k : ℕ) → k < length run → slice_index after (place + k) ≡ slice_index run k
  pub kept : (k : ℕ) → (k < place) ⊎ (place + length run ≤ k) → slice_index after k ≡ slice_index before k

-- the same where the file tells its bytes
abbrev pub TakesBytes : Option (List ℕ) → Option (List ℕ) → ℕ → List ℕ → Type 0
TakesBytes None after place run = ⊤
TakesBytes (Some before) None place run = ⊥
TakesBytes (Some before) (Some after) place run = AddsBytes before after place run

-- between two places zeros stand, and all else is as it was
pub record AddsZeros (before after : List ℕ) (from to : ℕ) : Type 0 where
  pub given : (k : ℕ) → from ≤ k → k < to → slice_index after k ≡ 0
  pub kept : (k : ℕ) → (k < from) ⊎ (to ≤ k) → slice_index after k ≡ slice_index before k

-- the same where the file tells its bytes
abbrev pub TakesZeros : Option (List ℕ) → Option (List ℕ) → ℕ → ℕ → Type 0
TakesZeros None after from to = ⊤
TakesZeros (Some before) None from to = ⊥
TakesZeros (Some before) (Some after) from to = AddsZeros before after from to

-- these bytes are all zero
abbrev pub AreZeros : List ℕ → Type 0
AreZeros bytes = (k : ℕ) → slice_index bytes k ≡ 0

-- each word is what its eight bytes are, from a word on
abbrev pub AreWords : List ℕ → ℕ → List ℕ → Type 0
AreWords bytes word words = (k : ℕ) → k < length words → slice_index words k ≡ little_from (8 * (word + k)) 8 bytes

-- the same where the file tells its bytes
abbrev pub HasWords : Option (List ℕ) → ℕ → List ℕ → Type 0
HasWords None word words = ⊤
HasWords (Some bytes) word words = AreWords bytes word words

-- so many words were appended, which are just those
abbrev pub AppendsWords : List ℕ → ℕ → List ℕ → List ℕ → Type 0
AppendsWords bytes count old new = (part : List ℕ) × (new ≡ old ++ part) × (length part ≡ count) × AreWords bytes 0 part

-- the same from a word of a file on, where it tells its bytes
abbrev pub AppendsFrom : Option (List ℕ) → ℕ → ℕ → List ℕ → List ℕ → Type 0
AppendsFrom bytes word count old new = (part : List ℕ) × (new ≡ old ++ part) × (length part ≡ count) × HasWords bytes word part

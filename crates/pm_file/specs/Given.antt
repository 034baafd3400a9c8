-- What a medium of words holds once it was given some lines, of eight words each.
use Rattle.std.specs.Prelude.{◌≡◌, ◌⊎◌, ℕ, ◌+◌, ◌*◌, ◌<◌, ◌≤◌, Bool, true, false, ◌==◌, List, ◌++◌, length, slice_index, Option, Some, None, ⊤}
use Rattle.std.specs.List.{list_any, IsDistinct}

-- whether the line is one of these
abbrev pub is_listed : List ℕ → ℕ → Bool
is_listed lines line = list_any (λ listed. listed == line) lines

-- no line is listed twice
abbrev pub IsEachOnce : List ℕ → Type 0
IsEachOnce lines = IsDistinct (λ line other. line == other) lines

-- each line that was listed is listed still
abbrev pub KeepsListed : List ℕ → List ℕ → Type 0
KeepsListed old new = (line : ℕ) → is_listed old line ≡ true → is_listed new line ≡ true

-- these lines follow one another, from a line on
abbrev pub IsRun : List ℕ → ℕ → Type 0
IsRun lines line = (k : ℕ) → k < length lines → slice_index lines k ≡ line + k

-- from a line on these words stand, and all else is as it was
pub record AddsRun (before after : List ℕ) (line : ℕ) (run : List ℕ) : Type 0 where
  pub given : (k : ℕ) → k < length run → slice_index after (8 * line + k) ≡ slice_index run k
  pub kept : (k : ℕ) → (k < 8 * line) ⊎ (8 * line + length run ≤ k) → slice_index after k ≡ slice_index before k

-- the listed lines have their words of these, and all else is as it was
pub record AddsLines (before after words lines : List ℕ) : Type 0 where
  pub given : (line k : ℕ) → is_listed lines line ≡ true → k < 8 → slice_index after (8 * line + k) ≡ slice_index words (8 * line + k)
  pub kept : (line k : ℕ) → is_listed lines line ≡ false → k < 8 → slice_index after (8 * line + k) ≡ slice_index before (8 * line + k)

-- the same where the medium tells its words
abbrev pub HasRun : Option (List ℕ) → Option (List ℕ) → ℕ → List ℕ → Type 0
HasRun None after line run = ⊤
HasRun (Some before) None line run = ⊥
HasRun (Some before) (Some after) line run = AddsRun before after line run

abbrev pub HasLines : Option (List ℕ) → Option (List ℕ) → List ℕ → List ℕ → Type 0
HasLines None after words lines = ⊤
HasLines (Some before) None words lines = ⊥
HasLines (Some before) (Some after) words lines = AddsLines before after words lines

-- where the medium tells its words, these are the first of them from a place on
abbrev pub ReadsFrom : Option (List ℕ) → ℕ → ℕ → List ℕ → Type 0
ReadsFrom None place count words = ⊤
ReadsFrom (Some held) place count words = (k : ℕ) → k < count → slice_index words k ≡ slice_index held (place + k)

-- so many words were appended, which the medium has from a place on
abbrev pub AppendsRead : Option (List ℕ) → ℕ → ℕ → List ℕ → List ℕ → Type 0
AppendsRead held place count old new = (part : List ℕ) × (new ≡ old ++ part) × (length part ≡ count) × ReadsFrom held place count part

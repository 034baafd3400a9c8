-- What a mirror of a medium's words has, and what a fence makes of it.
use Rattle.std.specs.Prelude.{ℕ, ◌-◌, ◌*◌, ◌^◌, ◌<◌, List, length, Option}
use Rattle.pm_file.specs.declared.mirror.Mirror.{Mirror}
use Rattle.pm_file.specs.Given.{HasLines}

-- the words in memory
abbrev pub mirrored_words : {F : Type 0} → Mirror F → List ℕ
mirrored_words mirror = mirror.words.items

-- The medium has the words of each line that was flushed, and no crash takes them from it; all its other words are as they
-- were.
abbrev pub IsGiven : {F : Type 0} → (F → Option (List ℕ)) → (F → Option (List ℕ)) → Mirror F → Mirror F → Type 0
IsGiven held safe old new = HasLines (held old.medium) (safe new.medium) old.words.items old.flushed.items

-- the lines that the next fence gives to the medium
abbrev pub listed_lines : {F : Type 0} → Mirror F → List ℕ
listed_lines mirror = mirror.flushed.items

-- A fence that succeeds forgets the lines that it gave, but in the last round that can be counted.
abbrev pub HasNextRound : {F : Type 0} → Mirror F → Type 0
HasNextRound mirror = mirror.round < 2 ^ 64 - 1

-- the faults of the medium
abbrev pub faults_behind : {F : Type 0} → (F → ℕ) → Mirror F → ℕ
faults_behind faults mirror = faults mirror.medium

-- the medium has just the bytes of the words
abbrev pub IsWhole : {F : Type 0} → (F → ℕ → Type 0) → Mirror F → Type 0
IsWhole is_length mirror = is_length mirror.medium (8 * length mirror.words.items)

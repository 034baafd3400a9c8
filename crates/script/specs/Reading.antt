-- What a step of reading lines does to the bytes that are still to be given.
use Rattle.std.specs.Prelude.{◌≡◌, ℕ, ◌+◌, ◌<◌, ◌≤◌, ◌⊎◌, Bool, IsTrue, List, [], ◌∷◌, ◌++◌, length, Option, Some, None, option_map}
use Rattle.io_edge.specs.Bytes.{GivesFirst, IsEnd}
use Rattle.script.specs.Lines.{newline, line_limit, script_limit, IsUnbroken}
use Rattle.script.specs.Places.{BreaksAt}
use Rattle.script.specs.declared.lines.Step.{Step}
use Rattle.script.specs.declared.lines.Step.TheVariants.{Line, TooLong, End, Limit}
use Rattle.script.specs.declared.lines.Found.{Found}
use Rattle.script.specs.declared.lines.Found.TheVariants as found

-- What is still to be given: the bytes that were read and not given, and those that the source has left, where it tells them.
abbrev pub rest_of : List ℕ → Option (List ℕ) → Option (List ℕ)
rest_of pending left = option_map (λ bytes. pending ++ bytes) left

-- where the bytes are told, the old ones and the new ones stand so to each other
abbrev pub IfTold : Option (List ℕ) → Option (List ℕ) → (List ℕ → List ℕ → Type 0) → Type 0
IfTold None new R = new ≡ None
IfTold (Some old) None R = ⊥
IfTold (Some old) (Some new) R = R old new

-- the line is all that was left, and the end of the input was seen before the limit
pub record IsLastLine (line : List ℕ) (read : ℕ) (seen : Bool) (old new : List ℕ) : Type 0 where
  pub whole : old ≡ line
  pub some : 0 < length line
  pub ended : new ≡ []
  pub below : read < script_limit
  pub end_seen : IsTrue seen

-- the line was taken off the beginning, with its newline or as the last one
pub record TakesLine (line : List ℕ) (read : ℕ) (seen : Bool) (old new : List ℕ) : Type 0 where
  pub unbroken : IsUnbroken line
  pub taken : (old ≡ line ++ newline ∷ new) ⊎ IsLastLine line read seen old new

-- a line over the limit was taken off the beginning
pub record TakesLongLine (read : ℕ) (seen : Bool) (old new : List ℕ) : Type 0 where
  pub line : List ℕ
  pub long : line_limit < length line
  pub takes : TakesLine line read seen old new

-- no byte was left, and none is
pub record IsOver (old new : List ℕ) : Type 0 where
  pub before : old ≡ []
  pub now : new ≡ []

-- of what was to be given a prefix without a newline was read, and this is left in the source
pub record BreaksOff (old left : List ℕ) : Type 0 where
  pub begun : List ℕ
  pub unbroken : IsUnbroken begun
  pub split : old ≡ begun ++ left

-- the prefix that was read raised the count by its length
pub record ReadPrefix (before now : ℕ) (old new : List ℕ) : Type 0 where
  pub front : List ℕ
  pub split : old ≡ front ++ new
  pub counted : now ≡ before + length front

-- What each step says of the line that was given last, the bytes that were read, whether the end of the input was seen,
-- what was to be given, what is still to be given, and what the source has left.
abbrev pub GoesOn : Step → List ℕ → ℕ → Bool → Option (List ℕ) → Option (List ℕ) → Option (List ℕ) → Type 0
GoesOn Line line read seen old new left = (length line ≤ line_limit) × IfTold old new (TakesLine line read seen)
GoesOn TooLong line read seen old new left = IfTold old new (TakesLongLine read seen)
GoesOn End line read seen old new left = (read < script_limit) × IsTrue seen × IfTold old new IsOver
GoesOn Limit line read seen old new left = (read ≡ script_limit) × IfTold old left BreaksOff

-- each line is at least a byte of the script, a newline or what ends at the end of the input
abbrev pub GivesMore : Step → ℕ → ℕ → Type 0
GivesMore Line before now = before < now
GivesMore TooLong before now = before < now
GivesMore End before now = Unit {0}
GivesMore Limit before now = Unit {0}

-- ---- one read

-- the source gave so many bytes, and they stand behind the old ones
pub record ReadsOnto (count : ℕ) (old_left : Option (List ℕ)) (old : List ℕ) (new_left : Option (List ℕ)) (new : List ℕ) : Type 0 where
  pub more : List ℕ
  pub long : length more ≡ count
  pub split : new ≡ old ++ more
  pub given : GivesFirst old_left more new_left

-- reads went on from the old state: what is to be given stays, and the bytes that left the source are counted
pub record ReadsOn (old_left : Option (List ℕ)) (old : List ℕ) (before : ℕ) (left : Option (List ℕ)) (pending : List ℕ) (now : ℕ) : Type 0 where
  pub rest : rest_of pending left ≡ rest_of old old_left
  pub front : IfTold old_left left (ReadPrefix before now)
  pub never_fewer : before ≤ now

-- the beginning of a line over the limit was read and dropped
pub record HasSkipped (old new : List ℕ) : Type 0 where
  pub begun : List ℕ
  pub unbroken : IsUnbroken begun
  pub long : line_limit < length begun
  pub split : old ≡ begun ++ new

-- a line over the limit was begun and dropped, as far as it was read
pub record SkipsOn (old_left : Option (List ℕ)) (old : List ℕ) (before : ℕ) (left : Option (List ℕ)) (now : ℕ) : Type 0 where
  pub skipped : IfTold (rest_of old old_left) left HasSkipped
  pub front : IfTold old_left left (ReadPrefix before now)
  pub never_fewer : before ≤ now

-- what a read found, after it
abbrev pub IsFound : Found → Option (List ℕ) → List ℕ → List ℕ → ℕ → ℕ → Type 0
IsFound found.Limit left old pending before now = IsUnbroken pending × (now ≡ script_limit)
IsFound found.End left old pending before now = (pending ≡ old) × IsEnd left × (now < script_limit)
IsFound (found.Newline place) left old pending before now = BreaksAt newline pending place
IsFound found.Nothing left old pending before now = IsUnbroken pending × (before < now)

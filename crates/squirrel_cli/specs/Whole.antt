-- A script that is read whole, before any of it is executed.
use Rattle.std.specs.Prelude.{◌≡◌, ◌⊎◌, ℕ, ◌^◌, ◌<◌, ◌≤◌, List, length, Option, Some, None, IfSome}
use Rattle.io_edge.specs.Bytes.{GivesFirst, IsEnd}
use Rattle.script.specs.Lines.{lines_of}
use Rattle.sessions.specs.declared.interleave.TheConstants.{MOST_CALLS}
use Rattle.squirrel_cli.specs.declared.status.Status.{Status}
use Rattle.squirrel_cli.specs.declared.status.Status.TheVariants.{NoMemory, ReadFault, ScriptLimit}

-- the most bytes that it has
abbrev pub most_bytes : ℕ
most_bytes = 2 ^ 24

-- it has no more, and no more lines than calls may begin
pub record IsWithinLimits (script : List ℕ) : Type 0 where
  pub bytes : length script ≤ most_bytes
  pub lines : length (lines_of script) ≤ MOST_CALLS

-- the source is known to have such a script
abbrev pub IsKnownWithinLimits : Option (List ℕ) → Type 0
IsKnownWithinLimits None = ⊥
IsKnownWithinLimits (Some script) = IsWithinLimits script

-- It was all that the source had left, where that is told.
pub record IsWholeScript (left now : Option (List ℕ)) (script : List ℕ) : Type 0 where
  pub gives : GivesFirst left script now
  pub all : IsEnd now
  pub within : IsWithinLimits script

-- at most so many bytes of the source, fewer only where it has no more
pub record IsFirstPart (most : ℕ) (left now : Option (List ℕ)) (bytes : List ℕ) : Type 0 where
  pub within : length bytes ≤ most
  pub gives : GivesFirst left bytes now
  pub end : length bytes < most → IsEnd now

-- some bytes were read
abbrev pub HasRead : Option (List ℕ) → Option (List ℕ) → Type 0
HasRead left now = (bytes : List ℕ) × GivesFirst left bytes now

-- It ends before a line is executed: memory was short, a read failed, or what the source had left has more.
pub record StopsBeforeLines (status : Status) (left now : Option (List ℕ)) : Type 0 where
  pub is : (status ≡ NoMemory) ⊎ (status ≡ ReadFault) ⊎ (status ≡ ScriptLimit)
  pub read : HasRead left now
  pub limit : status ≡ ScriptLimit → IfSome left (λ script. ¬ IsWithinLimits script)

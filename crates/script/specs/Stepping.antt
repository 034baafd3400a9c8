-- What each part of a step does to a reader of lines.
use Rattle.std.specs.Prelude.{◌≡◌, ℕ, ◌+◌, ◌<◌, ◌≤◌, true, false, IsTrue, if◌then◌else◌, nat_le, List, [], length, take, drop, Option, Result, Ok, Err, IfOk, OnOk, OnErr}
use Rattle.pm_trait.specs.Device.{HasRisen}
use Rattle.io_edge.specs.declared.source.ReadFault.{ReadFault}
use Rattle.io_edge.specs.Bytes.{IsEnd}
use Rattle.script.specs.Lines.{line_limit, script_limit, IsUnbroken}
use Rattle.script.specs.Reader.{pending, current, read_count, given_count, has_ended}
use Rattle.script.specs.Reading.{rest_of, IfTold, BreaksOff, GoesOn, GivesMore}
use Rattle.script.specs.declared.lines.Lines.{Lines}
use Rattle.script.specs.declared.lines.Step.{Step}
use Rattle.script.specs.declared.lines.Step.TheVariants.{Line, TooLong, End}
use Rattle.script.specs.declared.lines.Found.{Found}

-- ---- the next line

-- What a step says of what was to be given, and of the reader and what the source has left after it. A failed read breaks
-- off in a line.
abbrev pub StepsTo : Option (List ℕ) → Option (List ℕ) → Lines → Result Step ReadFault → Type 0
StepsTo rest left new (Ok step) =
    GoesOn step (current new) (read_count new) (has_ended new) rest (rest_of (pending new) left) left
StepsTo rest left new (Err fault) = IfTold rest left BreaksOff

-- What a step does to the counts, where the source has this left after it: a line is more given. The end of the input is
-- seen only where the source has none left.
pub record CountsStep (left : Option (List ℕ)) (faults_before faults_after : ℕ) (old new : Lines) (result : Result Step ReadFault) : Type 0 where
  pub never_fewer : read_count old ≤ read_count new
  pub given : IfOk result (λ step. GivesMore step (given_count old) (given_count new))
  pub ended : IsTrue (has_ended new) → IsEnd left
  pub below : OnErr result (read_count new < script_limit)
  pub within : read_count new ≤ script_limit
  pub given_within : given_count new ≤ script_limit
  pub no_fault : OnOk result (faults_after ≡ faults_before)
  pub faults : faults_before ≤ faults_after
  pub cause : OnErr result (HasRisen faults_before faults_after)

-- ---- its parts

-- a line is begun that no newline has ended yet
pub record IsBegun (lines : Lines) : Type 0 where
  pub unbroken : IsUnbroken (pending lines)
  pub unended : has_ended lines ≡ false

-- the line before this place was taken, and the newline there
pub record TakesAt (place : ℕ) (old new : Lines) (result : Step) : Type 0 where
  pub line : current new ≡ take place (pending old)
  pub behind : pending new ≡ drop (place + 1) (pending old)
  pub read : read_count new ≡ read_count old
  pub given : given_count old < given_count new
  pub unended : has_ended new ≡ false
  pub step : result ≡ (if nat_le place line_limit then Line else TooLong)

-- all bytes that were read were dropped
pub record DropsAll (old new : Lines) : Type 0 where
  pub none : pending new ≡ []
  pub read : read_count new ≡ read_count old
  pub given : given_count new ≡ given_count old + length (pending old)
  pub ended : has_ended new ≡ has_ended old

-- all bytes that were read were taken as the last line, if there are any
pub record TakesLast (old new : Lines) (result : Step) : Type 0 where
  pub line : current new ≡ pending old
  pub none : pending new ≡ []
  pub read : read_count new ≡ read_count old
  pub given : given_count new ≡ given_count old + length (pending old)
  pub ended : has_ended new ≡ true
  pub step : result ≡ (if nat_le 1 (length (pending old)) then Line else End)

-- no byte was read, given or dropped
pub record Keeps (old new : Lines) : Type 0 where
  pub same : pending new ≡ pending old
  pub read : read_count new ≡ read_count old
  pub ended : has_ended new ≡ has_ended old

-- what one read does to the counts, from and to what the source has left: none comes only at the end
pub record CountsRead (left now : Option (List ℕ)) (faults_before faults_after : ℕ) (old new : Lines) (result : Result ℕ ReadFault) : Type 0 where
  pub unended : has_ended new ≡ false
  pub end : IfOk result (λ count. count ≡ 0 → IsEnd left)
  pub read : IfOk result (λ count. read_count new ≡ read_count old + count)
  pub err_read : OnErr result (read_count new ≡ read_count old)
  pub err_left : OnErr result (now ≡ left)
  pub given : given_count new ≡ given_count old
  pub no_fault : OnOk result (faults_after ≡ faults_before)
  pub faults : faults_before ≤ faults_after
  pub cause : OnErr result (HasRisen faults_before faults_after)

-- what a read and the search in what came do to the counts; where the read failed, the line is still begun
pub record CountsPiece (faults_before faults_after : ℕ) (old new : Lines) (result : Result Found ReadFault) : Type 0 where
  pub unended : has_ended new ≡ false
  pub given : given_count new ≡ given_count old
  pub unbroken : OnErr result (IsUnbroken (pending new))
  pub below : OnErr result (read_count new < script_limit)
  pub no_fault : OnOk result (faults_after ≡ faults_before)
  pub faults : faults_before ≤ faults_after
  pub cause : OnErr result (HasRisen faults_before faults_after)

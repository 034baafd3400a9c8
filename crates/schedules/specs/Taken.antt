-- What the code has behind the turns that it took so far.
use Rattle.std.specs.Prelude.{◌≡◌, ℕ, ◌≤◌, false, List, [], length, Result, OnOk, OnErr}
use Rattle.pm_trait.specs.DeviceView.{DeviceView}
use Rattle.io_edge.specs.Bytes.{Takes}
use Rattle.session_lines.specs.Turns.{LeftView}
use Rattle.script.specs.SessionLines.{session_calls}
use Rattle.volume.specs.Stands.{IsStanding}
use Rattle.sessions.specs.Interleave.{InterleaveView, started}
use Rattle.sessions.specs.declared.interleave.TheConstants.{MOST_CALLS}
use Rattle.schedules.specs.Borders.{AreOfSessions, IsReached}
use Rattle.schedules.specs.Turns.{Border, Turn, AreTurns, border_behind}
use Rattle.schedules.specs.Schedules.{texts_of, WritesPrefix}

-- From this border on these turns were taken, and the code has come behind them.
pub record HasTaken (schedule : List ℕ) (start : Border) (turns : List Turn) (new : InterleaveView) (after : DeviceView) (left : LeftView) : Type 0 where
  pub are : AreTurns schedule 0 start turns
  pub reached : IsReached (border_behind start turns) new after left

-- Those were taken behind which no line is left, and their texts written; or the last text was cut.
pub record TookAll {T E : Type 0} (schedule : List ℕ) (start : Border) (new : InterleaveView) (after : DeviceView) (left : LeftView) (took now : List ℕ → Type 0) (result : Result T E) : Type 0 where
  pub turns : List Turn
  pub taken : HasTaken schedule start turns new after left
  pub none : OnOk result (left.lines ≡ [])
  pub texts : OnOk result (Takes took (texts_of start turns) now)
  pub cut : OnErr result (WritesPrefix took start turns now)

-- ---- the start

-- the lines of a script of so many sessions
abbrev pub lines_left : ℕ → List ℕ → LeftView
lines_left sessions script = record { sessions = sessions; lines = session_calls sessions script }

-- So many sessions begin on a volume, with few lines, each of one of them.
pub record MayStart (weave : InterleaveView) (device : DeviceView) (left : LeftView) : Type 0 where
  pub is_started : weave ≡ started weave.volume left.sessions
  pub some : 1 ≤ left.sessions
  pub few : left.sessions ≤ 16
  pub going : weave.volume.stopped ≡ false
  pub stands : IsStanding weave.volume device
  pub of : AreOfSessions left.sessions left.lines
  pub short : length left.lines ≤ MOST_CALLS

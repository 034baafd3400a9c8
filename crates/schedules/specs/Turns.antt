-- The turns of a schedule: one step after another, each of the session whose turn it is.
use Rattle.std.specs.Prelude.{◌≡◌, ℕ, ◌+◌, true, false, List, [], ◌∷◌, Some}
use Rattle.pm_trait.specs.DeviceView.{DeviceView}
use Rattle.tree_model.specs.Run.{State, Line}
use Rattle.session_lines.specs.Turns.{LeftView, next_line, without_next, turn_of}
use Rattle.session_laws.specs.Calls.{Calls}
use Rattle.sessions.specs.Interleave.{InterleaveView}
use Rattle.sessions.specs.Steps.{Steps, IsStopped}
use Rattle.sessions.specs.declared.entry.StepReply.{StepReply}
use Rattle.sessions.specs.declared.entry.StepReply.TheVariants.{Running, Ended}

-- What stands between two turns: the sessions, the device, the calls that run, the history, and the lines that are left. Where a fence has
-- failed calls and history are those before that turn.
pub record Border : Type 0 where
  pub weave : InterleaveView
  pub device : DeviceView
  pub calls : Calls
  pub history : State
  pub left : LeftView

-- a step of this session, with its line: what it gave, and what stands behind it
pub record Turn : Type 0 where
  pub session : ℕ
  pub line : Line
  pub reply : StepReply
  pub behind : Border

-- ---- what it does

-- the line of a call that ended is left no more
abbrev pub left_behind : LeftView → ℕ → StepReply → LeftView
left_behind left session (Running number) = left
left_behind left session (Ended number reply) = record left { lines = without_next left.lines session }

-- The step was made; calls and history behind it are those that it leaves.
pub record GoesOn (old : Border) (turn : Turn) : Type 0 where
  pub steps : Steps old.weave turn.behind.weave old.device turn.behind.device old.calls old.history turn.session turn.line turn.reply
  pub calls : (going : turn.behind.weave.volume.stopped ≡ false) → turn.behind.calls ≡ (steps.going going).later_calls
  pub history : (going : turn.behind.weave.volume.stopped ≡ false) → turn.behind.history ≡ (steps.going going).later
  pub calls_kept : turn.behind.weave.volume.stopped ≡ true → turn.behind.calls ≡ old.calls
  pub history_kept : turn.behind.weave.volume.stopped ≡ true → turn.behind.history ≡ old.history

-- An earlier fence failed: the call ends so, and nothing is done.
pub record StandsStill (old : Border) (turn : Turn) : Type 0 where
  pub still : IsStopped old.weave turn.behind.weave turn.session turn.reply
  pub device : turn.behind.device ≡ old.device
  pub calls : turn.behind.calls ≡ old.calls
  pub history : turn.behind.history ≡ old.history

-- It is that of the session whose turn it is, with its next line.
pub record IsTurn (schedule : List ℕ) (count : ℕ) (old : Border) (turn : Turn) : Type 0 where
  pub whose : turn_of schedule count old.left ≡ Some turn.session
  pub line_is : next_line old.left.lines turn.session ≡ Some turn.line
  pub left : turn.behind.left ≡ left_behind old.left turn.session turn.reply
  pub going : old.weave.volume.stopped ≡ false → GoesOn old turn
  pub still : old.weave.volume.stopped ≡ true → StandsStill old turn

-- ---- a list of them

-- so many came before
abbrev pub AreTurns : List ℕ → ℕ → Border → List Turn → Type 0
AreTurns schedule count old [] = Unit {0}
AreTurns schedule count old (turn ∷ turns) = IsTurn schedule count old turn × AreTurns schedule (count + 1) turn.behind turns

abbrev pub border_behind : Border → List Turn → Border
border_behind old [] = old
border_behind old (turn ∷ turns) = border_behind turn.behind turns

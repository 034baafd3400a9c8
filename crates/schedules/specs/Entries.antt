-- What turns say of the history.
use Rattle.std.specs.Prelude.{◌≡◌, ◌≢◌, ℕ, ◌<◌, ◌≤◌, ◌==◌, if◌then◌else◌, List, [], ◌∷◌, ◌++◌, length, slice_get, Some, Err}
use Rattle.tree_model.specs.Run.{Line}
use Rattle.tree_model.specs.declared.reply.LineFault.TheVariants.{BadLine}
use Rattle.tree_model.specs.declared.reply.Reply.TheVariants.{Fault, Stopped}
use Rattle.sessions.specs.History.{IsLegalHistory}
use Rattle.sessions.specs.declared.entry.Entry.{Entry}
use Rattle.sessions.specs.declared.entry.StepReply.{StepReply}
use Rattle.sessions.specs.declared.entry.StepReply.TheVariants.{Running, Ended}
use Rattle.sessions.specs.declared.entry.WeaveReply.{WeaveReply}
use Rattle.sessions.specs.declared.entry.WeaveReply.TheVariants.{Plain}
use Rattle.schedules.specs.Turns.{Border, Turn, border_behind}

-- the number of the call that made a step
abbrev pub number_of : StepReply → ℕ
number_of (Running number) = number
number_of (Ended number reply) = number

-- the line of the call of this number; of one that made no step it is no command
abbrev pub line_of : List Turn → ℕ → Line
line_of [] number = Err BadLine
line_of (turn ∷ turns) number = if number_of turn.reply == number then turn.line else line_of turns number

-- No call stands there twice.
abbrev pub StandOnce : List Entry → Type 0
StandOnce entries = (k m : ℕ) (one other : Entry) → slice_get entries k ≡ Some one → slice_get entries m ≡ Some other → one.number ≡ other.number → k ≡ m

-- it was neither answered that a fence failed, nor that one had failed before
pub record IsWhole (reply : WeaveReply) : Type 0 where
  pub no_fault : reply ≢ Plain Fault
  pub not_stopped : reply ≢ Plain Stopped

-- The call of this number stands among so many first entries, with its session and what it was answered.
pub record StandsAmong (entries : List Entry) (count session number : ℕ) (reply : WeaveReply) : Type 0 where
  pub place : ℕ
  pub early : place < count
  pub entry : Entry
  pub there : slice_get entries place ≡ Some entry
  pub session_is : entry.session ≡ session
  pub number_is : entry.number ≡ number
  pub reply_is : entry.reply ≡ reply

-- Whatever turns come behind this one: the entries so far are a legal history, to the one there; a call that ended in it stands among them, and one that
-- begins later stands behind them.
pub record StandsInOrder (start : Border) (lines : ℕ → Line) (entries : List Entry) (turn : Turn) : Type 0 where
  pub legal : IsLegalHistory start.weave.volume.size lines start.history turn.behind.weave.entries turn.behind.history
  pub so_far : (more : List Entry) × (entries ≡ turn.behind.weave.entries ++ more)
  pub ended : (number : ℕ) (reply : WeaveReply) → turn.reply ≡ Ended number reply → IsWhole reply → StandsAmong entries (length turn.behind.weave.entries) turn.session number reply
  pub later : (place : ℕ) (entry : Entry) → slice_get entries place ≡ Some entry → turn.behind.weave.begun < entry.number → length turn.behind.weave.entries ≤ place

abbrev pub AllStandInOrder : Border → (ℕ → Line) → List Entry → List Turn → Type 0
AllStandInOrder start lines entries [] = Unit {0}
AllStandInOrder start lines entries (turn ∷ turns) = StandsInOrder start lines entries turn × AllStandInOrder start lines entries turns

-- The entries are a legal history of the calls that began; each call stands there once, those that ended all do, in an order that goes by when they
-- ended and began.
pub record MakesHistory (start : Border) (turns : List Turn) : Type 0 where
  pub legal : IsLegalHistory start.weave.volume.size (line_of turns) start.history (border_behind start turns).weave.entries (border_behind start turns).history
  pub once : StandOnce (border_behind start turns).weave.entries
  pub in_order : AllStandInOrder start (line_of turns) (border_behind start turns).weave.entries turns

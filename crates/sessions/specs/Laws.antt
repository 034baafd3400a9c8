-- What holds of many sessions whatever step comes: a step's parts lead from calls that wait to calls that wait.
use Rattle.std.specs.Prelude.{◌≡◌, ℕ, ◌+◌, ◌^◌, ◌<◌, ◌≤◌, true, false, length, replicate, None, Some, Ok}
use Rattle.pm_trait.specs.DeviceView.{DeviceView, Acknowledges}
use Rattle.tree_model.specs.Run.{State, Line}
use Rattle.tree_model.specs.declared.command.Command.{Command}
use Rattle.volume.specs.Volume.{VolumeView}
use Rattle.volume.specs.Beside.{StandsBeside}
use Rattle.volume.specs.Prepared.{IsSameButRoom, IsChange}
use Rattle.volume.specs.Stages.{keeping}
use Rattle.volume.specs.Stands.{StandsFor}
use Rattle.volume.specs.declared.named.NamedNodes.{NamedNodes}
use Rattle.layout.specs.Name.{IsName, IsBytes}
use Rattle.volume.specs.declared.plan.Moving.{Moving}
use Rattle.volume.specs.declared.plan.Action.{Action}
use Rattle.volume.specs.declared.plan.Action.TheVariants.{Move}
use Rattle.running_calls.specs.Stages.{begun}
use Rattle.running_laws.specs.Waits.{bytes_of_command}
use Rattle.session_laws.specs.Calls.{Calls, call_at, without, left_of_all}
use Rattle.session_laws.specs.Going.{behind_commit}
use Rattle.sessions.specs.Advanced.{HasAdvanced, entry_of, with_entry}
use Rattle.sessions.specs.History.{IsLegal}
use Rattle.sessions.specs.Interleave.{InterleaveView, IsWeaving, started, tasks_of, with_task}
use Rattle.sessions.specs.Planned.{IsPlannedAmong}
use Rattle.sessions.specs.Steps.{MayStep, Steps, StepsOn, IsBusyRightly, HasReadBytes, HasReason, has_no_plan}
use Rattle.sessions.specs.Texts.{IsTold}
use Rattle.sessions.specs.Tasks.{task_in, held_by_all, HoldFew}
use Rattle.sessions.specs.declared.entry.StepReply.{StepReply}
use Rattle.sessions.specs.declared.entry.StepReply.TheVariants.{Ended}
use Rattle.sessions.specs.declared.entry.WeaveReply.{WeaveReply}
use Rattle.sessions.specs.declared.task.Task.{Task}

-- ---- where calls wait

-- The volume goes on, and stands for the words' state beside what all have left.
pub record WeavesOn (weave : InterleaveView) (device : DeviceView) (calls : Calls) (words : State) : Type 0 where
  pub going : weave.volume.stopped ≡ false
  pub stands : StandsBeside weave.volume device words (left_of_all weave.volume calls)
  pub few : weave.volume.kept ≤ 2 ^ 45

abbrev pub WeavesOnLaw : Type 0
WeavesOnLaw = (weave : InterleaveView) (device : DeviceView) (calls : Calls) (history : State) → (weaving : IsWeaving weave device calls history) → WeavesOn weave device calls weaving.words

-- What the others hold is as much as they have left, and few.
pub record OthersHold (weave : InterleaveView) (calls : Calls) (session : ℕ) : Type 0 where
  pub inodes : (held_by_all (tasks_of (without calls session))).inodes ≡ length (left_of_all weave.volume (without calls session)).inodes
  pub pages : (held_by_all (tasks_of (without calls session))).pages ≡ length (left_of_all weave.volume (without calls session)).pages
  pub few : HoldFew (tasks_of (without calls session))

abbrev pub OthersHoldLaw : Type 0
OthersHoldLaw = (weave : InterleaveView) (device : DeviceView) (calls : Calls) (history : State) (session : ℕ) → IsWeaving weave device calls history → OthersHold weave calls session

-- On a mounted volume they begin.
abbrev pub StartsLaw : Type 0
StartsLaw = (volume : VolumeView) (device : DeviceView) (state : State) (sessions : ℕ) → StandsFor volume device state → volume.stopped ≡ false → sessions ≤ 16
    → IsWeaving (started volume sessions) device (replicate sessions None) state

-- ---- an answer at once

-- Places and room alone were taken before it, and then the call is an entry that leaves the history, and acknowledged.
pub record IsAnswered (old new : InterleaveView) (before between after : DeviceView) (calls : Calls) (history : State) (session : ℕ) (line : Line) (answer : WeaveReply) : Type 0 where
  pub idle : call_at calls session ≡ None
  pub weaving : IsWeaving (record old { volume = new.volume }) between calls history
  pub size : new.volume.size ≡ old.volume.size
  pub marked : new.volume.marked ≡ old.volume.marked
  pub left : left_of_all new.volume calls ≡ left_of_all old.volume calls
  pub room : IsSameButRoom before between
  pub acked : Acknowledges between after
  pub new_is : new ≡ record old { volume = new.volume; begun = old.begun + 1; bytes = new.bytes; entries = with_entry old session (old.begun + 1) answer }
  pub legal : IsLegal old.volume.size (entry_of old.tasks session (old.begun + 1) answer) line history history
  pub busy : IsBusyRightly (Ended (old.begun + 1) answer) None calls history line
  pub bytes : HasReadBytes old.bytes new.bytes history.tree line answer
  pub no_plan : has_no_plan line answer ≡ true
  pub reason : HasReason before after None history line (Ended (old.begun + 1) answer)

abbrev pub AnswersLaw : Type 0
AnswersLaw = (old new : InterleaveView) (before between after : DeviceView) (calls : Calls) (history : State) (session : ℕ) (line : Line) (answer : WeaveReply)
    → IsWeaving old before calls history → IsAnswered old new before between after calls history session line answer
    → Steps old new before after calls history session line (Ended (old.begun + 1) answer)

-- ---- a step

-- The call that the session ran goes on.
abbrev pub GoesOnLaw : Type 0
GoesOnLaw = (old new : InterleaveView) (before after : DeviceView) (calls : Calls) (history : State) (session : ℕ) (task : Task) (command : Command) (reply : StepReply)
    → MayStep (with_task old session task) before calls history session (Ok command) → session < length old.tasks → task_in old.tasks session ≡ None
    → HasAdvanced old new before after session task (bytes_of_command command) reply
    → Steps (with_task old session task) new before after calls history session (Ok command) reply

-- the task of a plan that begins
pub record IsTaskOf (action : Action) (named : NamedNodes) (number : ℕ) (task : Task) : Type 0 where
  pub number_is : task.number ≡ number
  pub named_is : task.named ≡ named
  pub behind_is : task.behind ≡ behind_commit action
  pub running_is : begun action ≡ Some task.running

-- (the types of a plan say so)
abbrev pub HasName : Action → Type 0
HasName action = (moving : Moving) → action ≡ Move moving → IsName moving.to_name × IsBytes moving.to_name

-- It begins, with its first step, or where it has nothing to do.
abbrev pub BeginsLaw : Type 0
BeginsLaw = (old new : InterleaveView) (before after : DeviceView) (calls : Calls) (history : State) (session : ℕ) (command : Command) (named : NamedNodes) (action : Action) (task : Task) (reply : StepReply)
    → IsPlannedAmong old before calls history session command named action → IsChange action → HasName action → session < length old.tasks → IsTaskOf action named (old.begun + 1) task
    → HasAdvanced (record old { volume = keeping old.volume action; begun = old.begun + 1 }) new before after session task (bytes_of_command command) reply
    → Steps old new before after calls history session (Ok command) reply

-- ---- a reply that is written

-- Behind a step that ended its call what is written of the reply is there.
abbrev pub TellsLaw : Type 0
TellsLaw = (old new : InterleaveView) (before after : DeviceView) (calls : Calls) (history : State) (session : ℕ) (line : Line) (number : ℕ) (reply : WeaveReply)
    → StepsOn old new before after calls history session line (Ended number reply) → IsTold new after history.tree line reply

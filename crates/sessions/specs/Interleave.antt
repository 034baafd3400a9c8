-- What callers see of many sessions, and where their calls wait.
use Rattle.std.specs.Prelude.{◌≡◌, ℕ, ◌+◌, ◌-◌, ◌≤◌, false, if◌then◌else◌, List, [], ◌∷◌, length, replicate, set, Option, None, Some}
use Rattle.pm_trait.specs.DeviceView.{DeviceView}
use Rattle.tree_model.specs.Run.{State}
use Rattle.image_reading.specs.Residue.{no_residue}
use Rattle.volume.specs.Volume.{VolumeView}
use Rattle.volume.specs.Beside.{StandsBeside}
use Rattle.volume.specs.declared.plan.Moving.{Moving}
use Rattle.rename_ptr.specs.declared.rename.Progress.TheVariants.{Begun}
use Rattle.rename_ptr.specs.declared.rename.Stage.TheVariants.{Moving as MovesName}
use Rattle.running_calls.specs.declared.running.Running.TheVariants.{Moves}
use Rattle.running_laws.specs.Steps.{has_committed}
use Rattle.session_laws.specs.Calls.{Call, Calls, call_at, AreIdle, events_of_all, ranges_of_all, CallsWait}
use Rattle.session_laws.specs.Histories.{IsHistory}
use Rattle.session_laws.specs.Moving.{MoveWaits}
use Rattle.sessions.specs.declared.entry.Entry.{Entry}
use Rattle.sessions.specs.declared.task.Task.{Task}

-- The volume, what each session runs, the entries of the history, how many calls have begun, and the bytes of the last read.
pub record InterleaveView : Type 0 where
  pub volume : VolumeView
  pub tasks : List (Option Task)
  pub entries : List Entry
  pub begun : ℕ
  pub bytes : List ℕ

-- ---- the calls that run, with their commands

abbrev pub task_of : Call → Task
task_of call = record { number = call.number; named = call.named; behind = call.behind; running = call.running }

abbrev pub tasks_of : Calls → List (Option Task)
tasks_of [] = []
tasks_of (None ∷ calls) = None ∷ tasks_of calls
tasks_of (Some call ∷ calls) = Some (task_of call) ∷ tasks_of calls

-- how many of them are to come
abbrev pub to_come : Calls → ℕ
to_come [] = 0
to_come (None ∷ calls) = to_come calls
to_come (Some call ∷ calls) = (if has_committed call.running then 0 else 1) + to_come calls

-- ---- where they wait

-- None runs, and then the volume may have the mark; or they run beside one another; or a rename runs alone, which has made a step.
pub data AllWait (volume : VolumeView) (device : DeviceView) (words : State) (calls : Calls) : Type 0 where
  idle : AreIdle calls → volume.stopped ≡ false → volume.kept ≡ 0 → StandsBeside volume device words no_residue → AllWait volume device words calls
  beside : CallsWait volume device words no_residue calls → volume.kept ≡ events_of_all volume calls → AllWait volume device words calls
  alone : (s : ℕ) (call : Call) → MoveWaits volume device words calls s call → ((moving : Moving) → call.running ≡ Moves (MovesName moving Begun) → ⊥)
      → AllWait volume device words calls

-- Each call has a number of its own, one of those that were given out.
pub record AreNumbered (begun : ℕ) (calls : Calls) : Type 0 where
  pub least : (s : ℕ) (call : Call) → call_at calls s ≡ Some call → 1 ≤ call.number
  pub most : (s : ℕ) (call : Call) → call_at calls s ≡ Some call → call.number ≤ begun
  pub own : (s r : ℕ) (call other : Call) → call_at calls s ≡ Some call → call_at calls r ≡ Some other → call.number ≡ other.number → s ≡ r

-- The calls run on the volume and wait, and the words are those of the history, but for bytes of running writes' ranges. The device is settled and
-- the words are sound (`StandsBeside`).
pub record IsWeaving (weave : InterleaveView) (device : DeviceView) (calls : Calls) (history : State) : Type 0 where
  pub tasks : weave.tasks ≡ tasks_of calls
  pub few : length calls ≤ 16
  pub words : State
  pub waits : AllWait weave.volume device words calls
  pub history_is : IsHistory (ranges_of_all calls) history words
  pub numbered : AreNumbered weave.begun calls
  pub entered : length weave.entries + to_come calls ≤ weave.begun

-- They wait so, and no session runs a call.
abbrev pub HaveEnded : InterleaveView → DeviceView → State → Type 0
HaveEnded weave device history = (calls : Calls) × IsWeaving weave device calls history × AreIdle calls

-- ---- what a step asks for

-- So many sessions on the volume, none of which runs a call.
abbrev pub started : VolumeView → ℕ → InterleaveView
started volume sessions = record { volume = volume; tasks = replicate sessions None; entries = []; begun = 0; bytes = [] }

-- with the running call of a session in its place
abbrev pub with_task : InterleaveView → ℕ → Task → InterleaveView
with_task weave session task = record weave { tasks = set weave.tasks session (Some task) }

-- as it was before the last call began
abbrev pub unbegun : InterleaveView → InterleaveView
unbegun weave = record weave { begun = weave.begun - 1 }

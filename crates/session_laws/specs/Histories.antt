-- The history of many calls beside the words: its tree is that of the words, but for bytes of writes that run and have not committed. P is the
-- number of pages, I the words before a step, J those that it makes.
use Rattle.std.specs.Prelude.{◌≡◌, ◌⊎◌, ℕ, ◌<◌, Bool, true, false, List, ◌++◌, length, set, None, Some}
use Rattle.pm_trait.specs.DeviceView.{DeviceView}
use Rattle.tree_model.specs.Capacity.{Supply}
use Rattle.tree_model.specs.Tree.{node_at}
use Rattle.tree_model.specs.Step.{refusal_with, answer_of}
use Rattle.tree_model.specs.Run.{State, is_changing}
use Rattle.tree_model.specs.declared.command.Command.{Command}
use Rattle.mixing_laws.specs.Mixed.{Range, IsMixed}
use Rattle.image_reading.specs.Reading.{ReadsAs}
use Rattle.image_reading.specs.Residue.{no_residue}
use Rattle.image_reading.specs.Soundness.{Sound}
use Rattle.image_counts.specs.Laws.{supply_beside}
use Rattle.image_laws.specs.Quiet.{IsMix}
use Rattle.volume.specs.Volume.{VolumeView}
use Rattle.volume.specs.Costs.{events_of}
use Rattle.volume.specs.Named.{AreNamedBy, refusal_of_walks}
use Rattle.volume.specs.Stages.{keeping}
use Rattle.volume.specs.declared.named.NamedNodes.{NamedNodes}
use Rattle.volume.specs.declared.next.Next.{Next}
use Rattle.volume.specs.declared.plan.Action.{Action}
use Rattle.running_calls.specs.declared.running.Running.{Running}
use Rattle.running_calls.specs.Stages.{IsNext, step_of}
use Rattle.running_laws.specs.Waits.{bytes_of_command}
use Rattle.running_laws.specs.Steps.{IsAfter, Means, MeansFirst, commits, given_inode, range_of}
use Rattle.session_laws.specs.Calls.{Call, Calls, call_at, without, left_of_all, range_of_call, ranges_of_all, CallsWait}
use Rattle.session_laws.specs.Going.{AreFree, IsReadyAmong, IsCallOf, next_call}

-- The words are those of the history but for bytes of these ranges.
pub record IsHistory (ranges : List Range) (history words : State) : Type 0 where
  pub tree : IsMixed ranges history.tree words.tree
  pub room : words.room ≡ history.room

-- The accepted command is carried out in the history; a node that it makes gets this id, which no node has.
pub record EntersHistory (supply : Supply) (history entered : State) (command : Command) (id : ℕ) : Type 0 where
  pub accepted : refusal_with supply history.tree history.room command ≡ None
  pub unused : node_at history.tree id ≡ None
  pub after : IsAfter history entered command id

-- ---- behind a step

-- A step that doesn't commit leaves the history, and one that does enters its command.
pub record HistoryGoesOn (supply : Supply) (is_commit : Bool) (command : Command) (id : ℕ) (ranges : List Range) (history later : State) : Type 0 where
  pub quiet : is_commit ≡ false → IsHistory ranges history later
  pub enters : is_commit ≡ true → (entered : State) × EntersHistory supply history entered command id × IsHistory ranges entered later

abbrev pub HistoryBeginsLaw : Type 0
HistoryBeginsLaw = (volume : VolumeView) (device : DeviceView) (words later history : State) (calls : Calls) (s : ℕ) (command : Command) (action : Action) (call : Call) (next : Next Running)
    → CallsWait volume device words no_residue calls → call_at calls s ≡ None → s < length calls → IsReadyAmong volume device words command action calls
    → IsCallOf words command action call calls → IsNext call.running next → IsHistory (ranges_of_all calls) history words
    → MeansFirst (commits call.running) (range_of (bytes_of_command command) call.running) words later command (given_inode call.running)
    → HistoryGoesOn (supply_beside volume.size (left_of_all volume calls)) (commits call.running) command (given_inode call.running) (ranges_of_all (set calls s (next_call call next))) history later

abbrev pub HistoryGoesOnLaw : Type 0
HistoryGoesOnLaw = (volume : VolumeView) (device : DeviceView) (words later history : State) (calls : Calls) (s : ℕ) (call : Call) (next : Next Running)
    → CallsWait volume device words no_residue calls → call_at calls s ≡ Some call → IsNext call.running next → IsHistory (ranges_of_all calls) history words
    → Means (commits call.running) words later call.command (given_inode call.running)
    → HistoryGoesOn (supply_beside volume.size (left_of_all volume (without calls s))) (commits call.running) call.command (given_inode call.running) (ranges_of_all (set calls s (next_call call next))) history later

-- A change that has nothing to do enters the history, and leaves it.
abbrev pub IdleEntersLaw : Type 0
IdleEntersLaw = (volume : VolumeView) (device : DeviceView) (words history : State) (calls : Calls) (command : Command) (action : Action) (named : NamedNodes)
    → CallsWait volume device words no_residue calls → IsReadyAmong volume device words command action calls → is_changing command ≡ true → events_of action ≡ 0
    → AreNamedBy words.tree command named → AreFree named calls → IsHistory (ranges_of_all calls) history words
    → EntersHistory (supply_beside volume.size (left_of_all volume calls)) history history command 0

-- ---- what a command finds in the history

-- A refusal is that of the history, and so is the answer of a command that reads and names nothing of the running calls'.
pub record AnswersAlike (supply : Supply) (history words : State) (command : Command) : Type 0 where
  pub refusal : refusal_with supply history.tree history.room command ≡ refusal_with supply words.tree words.room command
  pub named : (named : NamedNodes) → AreNamedBy words.tree command named → AreNamedBy history.tree command named
  pub walks : refusal_of_walks history.tree command ≡ refusal_of_walks words.tree command

abbrev pub AnswersAlikeLaw : Type 0
AnswersAlikeLaw = (supply : Supply) (ranges : List Range) (history words : State) (command : Command) → IsHistory ranges history words → AnswersAlike supply history words command

abbrev pub ReadsAlikeLaw : Type 0
ReadsAlikeLaw = (volume : VolumeView) (device : DeviceView) (supply : Supply) (words history : State) (calls : Calls) (command : Command) (named : NamedNodes)
    → CallsWait volume device words no_residue calls → IsHistory (ranges_of_all calls) history words → is_changing command ≡ false
    → AreNamedBy words.tree command named → AreFree named calls → refusal_with supply words.tree words.room command ≡ None
    → answer_of supply history.tree history.room command ≡ answer_of supply words.tree words.room command

-- ---- a crash

-- It is sound, and reads as the state but for bytes of these ranges.
pub record IsCrashOf (P : ℕ) (M : List ℕ) (ranges : List Range) (state : State) : Type 0 where
  pub sound : Sound P M
  pub read : State
  pub reads : ReadsAs P M read
  pub mixed : IsHistory ranges state read

-- the history so far, or in a step that commits the one with its command
abbrev pub MayBeLeft : ℕ → List Range → Supply → Bool → Command → ℕ → State → List ℕ → Type 0
MayBeLeft P ranges supply is_commit command id history M =
    IsCrashOf P M ranges history ⊎ ((is_commit ≡ true) × (entered : State) × EntersHistory supply history entered command id × IsCrashOf P M ranges entered)

abbrev pub QuietCrashLaw : Type 0
QuietCrashLaw = (volume : VolumeView) (device : DeviceView) (words history : State) (calls : Calls) → CallsWait volume device words no_residue calls
    → IsHistory (ranges_of_all calls) history words → IsCrashOf volume.size device.words (ranges_of_all calls) history

abbrev pub BeginCrashLaw : Type 0
BeginCrashLaw = (volume : VolumeView) (device : DeviceView) (words history : State) (calls : Calls) (command : Command) (action : Action) (call : Call) (J M : List ℕ)
    → CallsWait volume device words no_residue calls → IsReadyAmong volume device words command action calls → IsCallOf words command action call calls
    → IsHistory (ranges_of_all calls) history words → (step_of (keeping volume action) (bytes_of_command command) call.running).Makes device.words J → IsMix device.words J M
    → MayBeLeft volume.size (range_of_call call ++ ranges_of_all calls) (supply_beside volume.size (left_of_all volume calls)) (commits call.running) command (given_inode call.running) history M

abbrev pub GoOnCrashLaw : Type 0
GoOnCrashLaw = (volume : VolumeView) (device : DeviceView) (words history : State) (calls : Calls) (s : ℕ) (call : Call) (J M : List ℕ)
    → CallsWait volume device words no_residue calls → call_at calls s ≡ Some call → IsHistory (ranges_of_all calls) history words
    → (step_of volume (bytes_of_command call.command) call.running).Makes device.words J → IsMix device.words J M
    → MayBeLeft volume.size (ranges_of_all calls) (supply_beside volume.size (left_of_all volume (without calls s))) (commits call.running) call.command (given_inode call.running) history M

-- A rename among sessions, which runs alone: it names every node.
use Rattle.std.specs.Prelude.{◌≡◌, ℕ, ◌^◌, ◌<◌, true, false, List, [], length, set, None, Some}
use Rattle.pm_trait.specs.DeviceView.{DeviceView, Acknowledges}
use Rattle.tree_model.specs.Capacity.{untaken}
use Rattle.tree_model.specs.PathText.{Route}
use Rattle.tree_model.specs.Step.{refusal_with}
use Rattle.tree_model.specs.Run.{State}
use Rattle.tree_model.specs.declared.command.Command.TheVariants.{Rename}
use Rattle.image_reading.specs.Residue.{no_residue}
use Rattle.image_laws.specs.Quiet.{IsMix}
use Rattle.volume.specs.Volume.{VolumeView}
use Rattle.volume.specs.Stages.{keeping}
use Rattle.volume.specs.declared.named.NamedNodes.TheVariants.{All}
use Rattle.volume.specs.declared.next.Next.{Next}
use Rattle.volume.specs.declared.next.Next.TheVariants.{More, Ended}
use Rattle.volume.specs.declared.plan.Moving.{Moving}
use Rattle.volume.specs.declared.plan.Action.TheVariants.{Move}
use Rattle.layout.specs.Name.{IsName, IsBytes}
use Rattle.rename_ptr.specs.declared.rename.Progress.{Progress}
use Rattle.rename_ptr.specs.declared.rename.Progress.TheVariants.{Begun}
use Rattle.rename_ptr.specs.declared.rename.Stage.TheVariants.{Moving as MovesName}
use Rattle.running_calls.specs.declared.running.Running.{Running}
use Rattle.running_calls.specs.declared.running.Running.TheVariants.{Moves}
use Rattle.running_calls.specs.Stages.{StandsStage, StandsNext, IsNext, EntersAt, step_of}
use Rattle.waiting_laws.specs.Beside.{MakesStep}
use Rattle.waiting_laws.specs.Moving.{WaitsToMove}
use Rattle.running_laws.specs.Steps.{Means, commits, has_committed}
use Rattle.session_laws.specs.Calls.{Call, Calls, call_at, AreIdle, HasBehind, CallsWait, events_of_call}
use Rattle.session_laws.specs.Going.{IsReadyAmong, behind_commit}
use Rattle.session_laws.specs.Histories.{EntersHistory, MayBeLeft}

-- no session runs a call but this one
abbrev pub RunsAlone : Calls → ℕ → Type 0
RunsAlone calls s = (r : ℕ) → (s ≡ r → ⊥) → call_at calls r ≡ None

-- The call of this session moves a name, no other runs, and until it has committed it is accepted still.
pub record MoveWaits (volume : VolumeView) (device : DeviceView) (words : State) (calls : Calls) (s : ℕ) (call : Call) : Type 0 where
  pub runs : call_at calls s ≡ Some call
  pub alone : RunsAlone calls s
  pub from : Route
  pub to : Route
  pub moving : Moving
  pub progress : Progress
  pub command_is : call.command ≡ Rename from to
  pub running_is : call.running ≡ Moves (MovesName moving progress)
  pub named : call.named ≡ All
  pub waits : WaitsToMove volume device words from to moving progress
  pub accepted : has_committed call.running ≡ false → refusal_with (untaken volume.size) words.tree words.room (Rename from to) ≡ None
  pub behind : HasBehind volume call
  -- (at an early stage that alone doesn't tell how many)
  pub of_plan : call.behind ≡ behind_commit (Move moving)
  pub kept : volume.kept ≡ events_of_call volume call
  pub few : events_of_call volume call < 2 ^ 41

-- ---- it begins

-- as the only one, from its begin on
pub record IsMoveOf (from to : Route) (moving : Moving) (call : Call) : Type 0 where
  pub command_is : call.command ≡ Rename from to
  pub named : call.named ≡ All
  pub behind : call.behind ≡ behind_commit (Move moving)
  pub running : call.running ≡ Moves (MovesName moving Begun)
  -- (the type of a plan's name says so)
  pub name : IsName moving.to_name × IsBytes moving.to_name

abbrev pub MoveBeginsLaw : Type 0
MoveBeginsLaw = (volume : VolumeView) (device : DeviceView) (words : State) (calls : Calls) (s : ℕ) (from to : Route) (moving : Moving) (call : Call)
    → CallsWait volume device words no_residue calls → AreIdle calls → s < length calls → volume.kept ≡ 0
    → IsReadyAmong volume device words (Rename from to) (Move moving) calls → IsMoveOf from to moving call
    → MoveWaits (keeping volume (Move moving)) device words (set calls s (Some call)) s call

-- ---- it goes on

abbrev pub MoveStandsLaw : Type 0
MoveStandsLaw = (volume : VolumeView) (device : DeviceView) (words : State) (calls : Calls) (s : ℕ) (call : Call) → MoveWaits volume device words calls s call
    → StandsStage volume device [] call.running

-- Behind a step it waits on, or nothing is left and all wait again.
abbrev pub MoveWaitsNext : VolumeView → DeviceView → State → Calls → ℕ → Call → Next Running → Type 0
MoveWaitsNext volume device later calls s call (More running) = MoveWaits volume device later (set calls s (Some (record call { running = running }))) s (record call { running = running })
MoveWaitsNext volume device later calls s call (Ended reply) = CallsWait volume device later no_residue (set calls s None) × (volume.kept ≡ 0)

pub record MoveWentOn (new : VolumeView) (after : DeviceView) (words : State) (calls : Calls) (s : ℕ) (call : Call) (next : Next Running) : Type 0 where
  pub later : State
  pub means : Means (commits call.running) words later call.command 0
  pub waits : MoveWaitsNext new after later calls s call next

abbrev pub MoveGoesOnLaw : Type 0
MoveGoesOnLaw = (old new : VolumeView) (before after : DeviceView) (words : State) (calls : Calls) (s : ℕ) (call : Call) (next : Next Running) → MoveWaits old before words calls s call
    → MakesStep (step_of old [] call.running) (EntersAt call.running) old new before after → IsNext call.running next → StandsNext new after [] next
    → MoveWentOn new after words calls s call next

-- ---- the history, which is that of the words

abbrev pub MoveEntersLaw : Type 0
MoveEntersLaw = (volume : VolumeView) (device : DeviceView) (words later : State) (calls : Calls) (s : ℕ) (call : Call) → MoveWaits volume device words calls s call
    → Means (commits call.running) words later call.command 0 → commits call.running ≡ true → EntersHistory (untaken volume.size) words later call.command 0

-- ---- a crash

abbrev pub MoveCrashLaw : Type 0
MoveCrashLaw = (volume : VolumeView) (device : DeviceView) (words : State) (calls : Calls) (s : ℕ) (call : Call) (J M : List ℕ) → MoveWaits volume device words calls s call
    → (step_of volume [] call.running).Makes device.words J → IsMix device.words J M
    → MayBeLeft volume.size [] (untaken volume.size) (commits call.running) call.command 0 words M

-- ---- an acknowledgement, or a command that reads, leaves it

abbrev pub MoveAcknowledgedLaw : Type 0
MoveAcknowledgedLaw = (volume : VolumeView) (before after : DeviceView) (words : State) (calls : Calls) (s : ℕ) (call : Call) → MoveWaits volume before words calls s call
    → Acknowledges before after → MoveWaits volume after words calls s call

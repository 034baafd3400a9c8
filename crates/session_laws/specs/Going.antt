-- A call among others is prepared, begins and goes on, and one is acknowledged.
use Rattle.std.specs.Prelude.{◌≡◌, ℕ, ◌+◌, ◌^◌, ◌<◌, ◌≤◌, true, false, nat_lt, if◌then◌else◌, length, set, Option, None, Some, Result}
use Rattle.pm_trait.specs.DeviceView.{DeviceView, Acknowledges}
use Rattle.tree_model.specs.Run.{State, is_changing}
use Rattle.tree_model.specs.declared.command.Command.{Command}
use Rattle.tree_model.specs.declared.reply.Refusal.{Refusal}
use Rattle.image_reading.specs.Residue.{no_residue}
use Rattle.image_counts.specs.Laws.{supply_beside}
use Rattle.volume.specs.Volume.{VolumeView}
use Rattle.volume.specs.Beside.{StandsBeside, MayPrepare}
use Rattle.volume.specs.Carried.{HasReserved}
use Rattle.volume.specs.Costs.{events_of, fences_for_loss, pages_removed, pages_replaced, goes_of}
use Rattle.volume.specs.Named.{AreNamedBy}
use Rattle.volume.specs.Planned.{IsPlannedWith}
use Rattle.volume.specs.Prepared.{Prepares}
use Rattle.volume.specs.Stages.{keeping}
use Rattle.volume.specs.declared.named.NamedNodes.{NamedNodes}
use Rattle.volume.specs.declared.named.NamedNodes.TheVariants.{All, These}
use Rattle.volume.specs.declared.next.Next.{Next}
use Rattle.volume.specs.declared.next.Next.TheVariants.{More, Ended}
use Rattle.volume.specs.declared.plan.Action.{Action}
use Rattle.volume.specs.declared.plan.Action.TheVariants.{Make, Name, Remove, Move, Write as WriteBytes, WriteNothing, Resize, KeepSize, KeepNames, Read as ReadBytes, Status, Names, Space}
use Rattle.running_calls.specs.declared.running.Running.{Running}
use Rattle.running_calls.specs.Stages.{StandsNext, IsNext, EntersAt, begun, step_of}
use Rattle.waiting_laws.specs.Beside.{IsReady, MakesStep}
use Rattle.running_laws.specs.Waits.{bytes_of_command}
use Rattle.running_laws.specs.Steps.{Means, MeansFirst, commits, given_inode, range_of, runs_beside}
use Rattle.session_laws.specs.Calls.{Call, Calls, call_at, AreIdle, left_of_all, events_of_all, IsNamed, CallsWait}

-- ---- before it begins

-- No running call names what it names; where it names all, none runs.
abbrev pub AreFree : NamedNodes → Calls → Type 0
AreFree All calls = AreIdle calls
AreFree (These inodes) calls = (s : ℕ) (other : Call) → call_at calls s ≡ Some other → (i : ℕ) → IsNamed (These inodes) i → ¬ IsNamed other.named i

-- It may be prepared,
abbrev pub AsksLaw : Type 0
AsksLaw = (volume : VolumeView) (device : DeviceView) (words : State) (calls : Calls) (command : Command) (named : NamedNodes) → CallsWait volume device words no_residue calls
    → AreNamedBy words.tree command named → AreFree named calls → MayPrepare volume device words (left_of_all volume calls) command

-- and the others wait as they did, with the same steps to come;
pub record ArePrepared (old new : VolumeView) (after : DeviceView) (words : State) (calls : Calls) : Type 0 where
  pub calls_wait : CallsWait new after words no_residue calls
  pub events : events_of_all new calls ≡ events_of_all old calls

abbrev pub PreparedLaw : Type 0
PreparedLaw = (old new : VolumeView) (before after : DeviceView) (words : State) (calls : Calls) (command : Command) (result : Result Action Refusal) → CallsWait old before words no_residue calls
    → Prepares old new before after command result → StandsBeside new after words (left_of_all old calls) → ArePrepared old new after words calls

-- and then it is ready, with few events.
pub record IsReadyAmong (volume : VolumeView) (device : DeviceView) (words : State) (command : Command) (action : Action) (calls : Calls) : Type 0 where
  pub ready : IsReady volume device words command action (left_of_all volume calls)
  pub few : events_of action < 2 ^ 41

abbrev pub ReadyLaw : Type 0
ReadyLaw = (volume : VolumeView) (device : DeviceView) (words : State) (calls : Calls) (command : Command) (action : Action) → CallsWait volume device words no_residue calls
    → MayPrepare volume device words (left_of_all volume calls) command → IsPlannedWith (supply_beside volume.size (left_of_all volume calls)) device.words words command action
    → HasReserved volume device action → volume.kept ≤ 2 ^ 62 → IsReadyAmong volume device words command action calls

-- The events of calls that wait are few.
abbrev pub FewKeptLaw : Type 0
FewKeptLaw = (volume : VolumeView) (device : DeviceView) (words : State) (calls : Calls) → CallsWait volume device words no_residue calls → length calls ≤ 16
    → events_of_all volume calls ≤ 2 ^ 45

-- ---- it begins

-- how many fences come behind the commit of a plan
abbrev pub behind_commit : Action → ℕ
behind_commit (Make entry) = 0
behind_commit (Name link) = 0
behind_commit (Remove removal) = 1 + fences_for_loss (pages_removed removal) removal.loss.goes
behind_commit (Move moving) = 2 + fences_for_loss (pages_replaced moving) (goes_of moving.replaced)
behind_commit (WriteBytes writing) = 0
behind_commit WriteNothing = 0
behind_commit (Resize resizing) = if nat_lt resizing.old_size resizing.new_size then 0 else fences_for_loss resizing.cut false
behind_commit KeepSize = 0
behind_commit KeepNames = 0
behind_commit (ReadBytes reading) = 0
behind_commit (Status inode) = 0
behind_commit (Names inode) = 0
behind_commit Space = 0

-- what is left of a call behind a step
abbrev pub next_call : Call → Next Running → Option Call
next_call call (More running) = Some (record call { running = running })
next_call call (Ended reply) = None

-- The call is that of this plan, and runs beside others.
pub record IsCallOf (words : State) (command : Command) (action : Action) (call : Call) (calls : Calls) : Type 0 where
  pub command_is : call.command ≡ command
  pub changing : is_changing command ≡ true
  pub named : AreNamedBy words.tree command call.named
  pub free : AreFree call.named calls
  pub behind : call.behind ≡ behind_commit action
  pub running : begun action ≡ Some call.running
  pub beside : runs_beside call.running ≡ true
  pub some : 0 < events_of action

-- Behind its first step all wait: the others as they did, and it, unless it has ended.
pub record BeganAmong (new : VolumeView) (after : DeviceView) (words : State) (calls : Calls) (s : ℕ) (call : Call) (next : Next Running) : Type 0 where
  pub later : State
  pub means : MeansFirst (commits call.running) (range_of (bytes_of_command call.command) call.running) words later call.command (given_inode call.running)
  pub calls_wait : CallsWait new after later no_residue (set calls s (next_call call next))
  pub kept : new.kept ≡ events_of_all new (set calls s (next_call call next))

abbrev pub BeginAmongLaw : Type 0
BeginAmongLaw = (old new : VolumeView) (before after : DeviceView) (words : State) (calls : Calls) (s : ℕ) (command : Command) (action : Action) (call : Call) (next : Next Running)
    → CallsWait old before words no_residue calls → call_at calls s ≡ None → s < length calls → old.kept ≡ events_of_all old calls
    → IsReadyAmong old before words command action calls → IsCallOf words command action call calls
    → MakesStep (step_of (keeping old action) (bytes_of_command command) call.running) (EntersAt call.running) (keeping old action) new before after
    → IsNext call.running next → StandsNext new after (bytes_of_command command) next
    → BeganAmong new after words calls s call next

-- ---- it goes on

pub record WentOnAmong (new : VolumeView) (after : DeviceView) (words : State) (calls : Calls) (s : ℕ) (call : Call) (next : Next Running) : Type 0 where
  pub later : State
  pub means : Means (commits call.running) words later call.command (given_inode call.running)
  pub calls_wait : CallsWait new after later no_residue (set calls s (next_call call next))
  pub kept : new.kept ≡ events_of_all new (set calls s (next_call call next))

abbrev pub GoOnAmongLaw : Type 0
GoOnAmongLaw = (old new : VolumeView) (before after : DeviceView) (words : State) (calls : Calls) (s : ℕ) (call : Call) (next : Next Running)
    → CallsWait old before words no_residue calls → call_at calls s ≡ Some call → old.kept ≡ events_of_all old calls
    → MakesStep (step_of old (bytes_of_command call.command) call.running) (EntersAt call.running) old new before after
    → IsNext call.running next → StandsNext new after (bytes_of_command call.command) next
    → WentOnAmong new after words calls s call next

-- ---- one is acknowledged

abbrev pub AcknowledgedAmongLaw : Type 0
AcknowledgedAmongLaw = (volume : VolumeView) (before after : DeviceView) (words : State) (calls : Calls) → CallsWait volume before words no_residue calls → Acknowledges before after
    → CallsWait volume after words no_residue calls

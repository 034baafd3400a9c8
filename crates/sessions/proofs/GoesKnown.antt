-- What is known where a call that runs makes its next step, and behind it, whether it runs beside others or is a rename, which runs alone.
use Rattle.std.proofs.Common.{◌≡◌, ℕ, ◌*◌, ◌≤◌, false, List, length, set}
use Rattle.pm_trait.specs.DeviceView.{DeviceView, IsSettledView}
use Rattle.tree_model.specs.Capacity.{Supply}
use Rattle.tree_model.specs.Run.{State}
use Rattle.image_reading.specs.Residue.{no_residue}
use Rattle.image_counts.specs.Laws.{supply_beside}
use Rattle.image_laws.specs.Quiet.{IsMix}
use Rattle.volume.specs.Volume.{VolumeView}
use Rattle.volume.specs.declared.next.Next.{Next}
use Rattle.volume.specs.declared.next.Next.TheVariants.{More, Ended}
use Rattle.running_calls.specs.declared.running.Running.{Running}
use Rattle.running_calls.specs.Stages.{StandsStage, IsNext, left_of, step_of}
use Rattle.running_laws.specs.Waits.{bytes_of_command}
use Rattle.running_laws.specs.Steps.{commits, given_inode}
use Rattle.session_laws.specs.Calls.{Call, Calls, without, left_of_all, events_of_all, events_of_call, ranges_of_all, HasBehind, CallsWait}
use Rattle.session_laws.specs.Going.{next_call}
use Rattle.session_laws.specs.Histories.{HistoryGoesOn, MayBeLeft}
use Rattle.sessions.specs.Advanced.{MadeStep}
use Rattle.sessions.specs.Interleave.{AllWait}
use Rattle.sessions.proofs.GoesFirst.{IsFirst}
use Rattle.sessions.proofs.GoesIds.{IsInRange}
use Rattle.sessions.proofs.GoesReplies.{TellsNext}

-- what isn't free for a call of this session
abbrev pub supply_for : VolumeView → Calls → ℕ → Supply
supply_for volume calls s = supply_beside volume.size (left_of_all volume (without calls s))

-- ---- behind the step

-- all wait; where the call has ended the others wait beside one another
abbrev pub WaitsBehind : VolumeView → DeviceView → State → Calls → Next Running → Type 0
WaitsBehind new after words calls (More running) = AllWait new after words calls
WaitsBehind new after words calls (Ended reply) = CallsWait new after words no_residue calls × (new.kept ≡ events_of_all new calls)

abbrev pub BehindNext : VolumeView → Call → Next Running → Type 0
BehindNext new call (More running) = HasBehind new (record call { running = running })
BehindNext new call (Ended reply) = Unit {0}

-- The words are those of the history, which has gone on.
pub record WentTo (old new : VolumeView) (after : DeviceView) (calls : Calls) (history : State) (s : ℕ) (call : Call) (next : Next Running) : Type 0 where
  pub words : State
  pub waits : WaitsBehind new after words (set calls s (next_call call next)) next
  pub goes : HistoryGoesOn (supply_for old calls s) (commits call.running) call.command (given_inode call.running) (ranges_of_all (set calls s (next_call call next))) history words
  pub behind : BehindNext new call next
  pub going : new.stopped ≡ false
  pub size : new.size ≡ old.size
  pub marked : new.marked ≡ old.marked

-- ---- before it

-- It may make its step, whose events are kept; and this is what a crash in the step leaves, what the call will be told, and what is known behind it.
pub record StandsAt (volume : VolumeView) (device : DeviceView) (calls : Calls) (history : State) (s : ℕ) (call : Call) : Type 0 where
  pub stands : StandsStage volume device (bytes_of_command call.command) call.running
  pub first : IsFirst (left_of volume (bytes_of_command call.command) call.running) (step_of volume (bytes_of_command call.command) call.running)
  pub behind : HasBehind volume call
  pub settled : IsSettledView device
  pub whole : length device.words ≡ 512 * volume.size
  pub kept : events_of_call volume call ≤ volume.kept
  pub room : volume.kept ≤ device.spare
  pub id : IsInRange volume.size call.command (given_inode call.running)
  pub tells : (next : Next Running) → IsNext call.running next → TellsNext call.command call.running next
  pub crash : (J M : List ℕ) → (step_of volume (bytes_of_command call.command) call.running).Makes device.words J → IsMix device.words J M
      → MayBeLeft volume.size (ranges_of_all calls) (supply_for volume calls s) (commits call.running) call.command (given_inode call.running) history M
  pub goes : (new : VolumeView) (after : DeviceView) (next : Next Running) → MadeStep volume new device after (bytes_of_command call.command) call.running next
      → WentTo volume new after calls history s call next

-- From the mount on: what is asked of a mounted volume and its device, and how a task leaves them.
use Rattle.std.specs.Prelude.{◌≡◌, ◌⊎◌, ℕ, ◌+◌, ◌^◌, ◌≤◌, false, [], Some}
use Rattle.pm_trait.specs.Device.{HasRisen}
use Rattle.pm_trait.specs.DeviceView.{DeviceView, IsSettledView}
use Rattle.image_reading.specs.Tidy.{Tidy}
use Rattle.script.specs.declared.run_end.RunEnd.{RunEnd}
use Rattle.volume.specs.Stands.{IsStanding, StandsFor}
use Rattle.volume.specs.Volume.{VolumeView}
use Rattle.engine.specs.Run.{last_state}
use Rattle.engine.specs.Script.{HasCause, LeavesRun, RunsScript}
use Rattle.engine.specs.Session.{on, session_of}
use Rattle.tree_model.specs.Run.{State}
use Rattle.script.specs.Texts.{listing_text}
use Rattle.squirrel_cli.specs.Ends.{end_of}
use Rattle.squirrel_cli.specs.Mounts.{ClosesAfter}
use Rattle.squirrel_cli.specs.Tells.{TellsAndCloses}
use Rattle.squirrel_cli.specs.declared.scripted.Answered.{Answered}
use Rattle.squirrel_cli.specs.declared.status.Status.{Status}
use Rattle.squirrel_cli.specs.declared.status.Status.TheVariants.{NoMemory}
use Rattle.squirrel_cli.specs.Seen.{Seen, IsUntouched}

-- the volume stands on the device, whose counts are far from the end of their range
pub record GoesOn (volume : VolumeView) (device : DeviceView) : Type 0 where
  pub going : volume.stopped ≡ false
  pub stands : IsStanding volume device
  pub fences : device.fences ≤ 2 ^ 61
  pub acks : device.acks ≤ 2 ^ 61

-- where no fence failed the device is settled and tidy
pub record LeavesGoing (P : ℕ) (before after : DeviceView) : Type 0 where
  pub settled : HasRisen before.faults after.faults ⊎ IsSettledView after
  pub tidy : HasRisen before.faults after.faults ⊎ Tidy P after.words
  pub acks : after.acks ≤ before.acks + 2 ^ 36

-- the lines of the script were answered to this end, and the session that is left stands on the device, unless a fence failed
pub record AnswersLines {S K : Type 0} (volume : VolumeView) (old new : Seen S K) (answered : Answered) : Type 0 where
  pub run : RunsScript volume.size old.device new.device answered.end old.left new.left old.took new.took
  pub cause : HasCause answered.end old.read_faults new.read_faults old.write_faults new.write_faults
  pub leaves : LeavesRun answered.end (on (session_of volume []) old.device) (on answered.session new.device)

-- the script was run to the end that the status tells
pub record RunsOn {S K : Type 0} (P : ℕ) (old new : Seen S K) (status : Status) : Type 0 where
  pub end : RunEnd
  pub ended : end_of status ≡ Some end
  pub run : RunsScript P old.device new.device end old.left new.left old.took new.took

-- the script was run to an end, and where that is its own the volume was closed
pub record RunsAndCloses {S K : Type 0} (P : ℕ) (old new : Seen S K) (status : Status) : Type 0 where
  pub end : RunEnd
  pub ran : DeviceView
  pub run : RunsScript P old.device ran end old.left new.left old.took new.took
  pub closes : ClosesAfter end P (last_state run.start run.states) ran new.device status

-- the tree of the volume was listed, and it was closed
pub record ListsOn {K : Type 0} (volume : VolumeView) (old new : Seen (Unit {0}) K) (status : Status) : Type 0 where
  pub script : new.script ≡ old.script
  pub told : (state : State) → StandsFor volume old.device state → TellsAndCloses volume.size state (listing_text state.tree) old.device new.device status old.took new.took

-- memory was short before anything was done, or what F says was done
abbrev pub UnlessShort : {S K : Type 0} → (Seen S K → Seen S K → Status → Type 0) → Seen S K → Seen S K → Status → Type 0
UnlessShort F old new status = (status ≡ NoMemory) × IsUntouched old new ⊎ F old new status

-- What `weave` does: the whole script is read, and the lines of its sessions are executed step by step by a schedule.
use Rattle.std.specs.Prelude.{◌≡◌, ◌⊎◌, ℕ, ◌+◌, List, [], Some}
use Rattle.pm_trait.specs.Trail.{Trail}
use Rattle.pm_trait.specs.Device.{LeavesOnly, EndsInFault, acks_from, moment_of}
use Rattle.pm_trait.specs.DeviceView.{DeviceView}
use Rattle.io_edge.specs.Bytes.{Takes}
use Rattle.layout.specs.Superblock.{KeepsSuperblock}
use Rattle.image_reading.specs.Soundness.{pages_in_image}
use Rattle.tree_model.specs.Run.{State}
use Rattle.volume.specs.Prepared.{IsSameButRoom}
use Rattle.volume.specs.Volume.{VolumeView}
use Rattle.mount_scan.specs.Mounts.{HasMounted, IsOnlyMounted, KeepsState}
use Rattle.sessions.specs.Interleave.{InterleaveView, started}
use Rattle.schedules.specs.declared.weave_end.WeaveEnd.{WeaveEnd}
use Rattle.schedules.specs.declared.weave_end.WeaveEnd.TheVariants as ends
use Rattle.schedules.specs.Crashes.{IsLeftBy, acks_of_turns}
use Rattle.schedules.specs.Schedules.{FailsToUnmark, RunsTurns, start_of}
use Rattle.schedules.specs.Turns.{Border, Turn, border_behind}
use Rattle.squirrel_cli.specs.declared.status.Status.{Status}
use Rattle.squirrel_cli.specs.declared.status.Status.TheVariants.{DeviceFault, WriteFault}
use Rattle.squirrel_cli.specs.Mounts.{ClosesAs}
use Rattle.squirrel_cli.specs.Seen.{Seen}
use Rattle.squirrel_cli.specs.Whole.{IsWholeScript, StopsBeforeLines}

-- The script could not be read whole, or memory was short. The device was mounted, and nothing was executed or written.
pub record EndsUnwoven {S K : Type 0} (old new : Seen S K) (status : Status) : Type 0 where
  pub stops : StopsBeforeLines status old.left new.left
  pub mounted : DeviceView
  pub mount : IsOnlyMounted (pages_in_image old.device.words) old.device mounted
  pub room : IsSameButRoom mounted new.device
  pub unwritten : Takes old.took [] new.took

-- The fence failed that takes the mark away. Nothing was executed or written, and a crash leaves the state of the words at entry.
pub record FailsToBegin {S K : Type 0} (sessions : ℕ) (old new : Seen S K) (status : Status) : Type 0 where
  pub is : status ≡ DeviceFault
  pub script : List ℕ
  pub whole : IsWholeScript old.left new.left script
  pub mounted : DeviceView
  pub volume : VolumeView
  pub has_mounted : HasMounted volume old.device mounted
  pub open has_mounted use *
  pub woven : InterleaveView
  pub fails : FailsToUnmark start script ends.Faulted (started volume sessions) woven mounted new.device old.took new.took
  pub keeps : KeepsState (pages_in_image old.device.words) start old.device new.device
  -- no word of the superblock but the mark is another
  pub beside : KeepsSuperblock old.device.words new.device.words
  pub halts : EndsInFault new.device.trail

-- A schedule that was run to its end is closed for its history, and every other end is told and leaves the device.
abbrev pub ClosesBehind : WeaveEnd → ℕ → State → DeviceView → DeviceView → Status → Type 0
ClosesBehind ends.Done P history ran after status = ClosesAs P history ran after status
ClosesBehind ends.Faulted P history ran after status = (status ≡ DeviceFault) × (after ≡ ran)
ClosesBehind ends.WriteFault P history ran after status = (status ≡ WriteFault) × (after ≡ ran)

-- What is promised of turns is promised over the mount before them and the close behind them too.
pub record KeepsTurns (start : Border) (turns : List Turn) (before after : DeviceView) : Type 0 where
  -- a crash at any moment leaves the history at one of the turns, with the acknowledgements up to there
  pub any_moment : LeavesOnly before.trail after.trail (IsLeftBy start turns)
  pub acked : (told : Trail) → after.trail ≡ Some told → acks_from before.trail after.trail (moment_of after.trail) ≡ acks_of_turns turns
  pub ack_count : after.acks ≡ before.acks + acks_of_turns turns
  -- no word of the superblock but the mark is another
  pub beside : KeepsSuperblock before.words after.words

-- The promise of many sessions: the volume is mounted, whatever a crash left in it to repair, the whole script is read, its lines are
-- executed step by step by the schedule, and where that comes to its end the volume is closed.
pub record HasWoven {S K : Type 0} (sessions : ℕ) (schedule : List ℕ) (old new : Seen S K) (status : Status) : Type 0 where
  pub script : List ℕ
  pub whole : IsWholeScript old.left new.left script
  pub mounted : DeviceView
  pub volume : VolumeView
  pub has_mounted : HasMounted volume old.device mounted
  pub open has_mounted use *
  pub end : WeaveEnd
  pub woven : InterleaveView
  -- the device behind the last turn, before the close
  pub ran : DeviceView
  pub runs : RunsTurns start script schedule end (started volume sessions) woven mounted ran old.took new.took
  pub open runs use *
  pub closes : ClosesBehind end (pages_in_image old.device.words) (border_behind (start_of first began start script) takes.turns).history ran new.device status
  pub keeps : KeepsTurns (start_of first began start script) takes.turns old.device new.device
  pub open keeps use *
  -- where a fence failed, nothing was done to the device after it
  pub halts : status ≡ DeviceFault → EndsInFault new.device.trail

-- What `weave` does on a sound volume.
abbrev pub WeavesScript : {S K : Type 0} → ℕ → List ℕ → Seen S K → Seen S K → Status → Type 0
WeavesScript sessions schedule old new status = EndsUnwoven old new status ⊎ FailsToBegin sessions old new status ⊎ HasWoven sessions schedule old new status

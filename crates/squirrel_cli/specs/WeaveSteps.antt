-- The steps of `weave`, from the mount on: those of Weaves.antt, which says what they come to from its entry on.
use Rattle.std.specs.Prelude.{◌≡◌, ◌⊎◌, ℕ, List, []}
use Rattle.pm_trait.specs.Device.{HasRisen}
use Rattle.pm_trait.specs.DeviceView.{DeviceView, IsSettledView}
use Rattle.io_edge.specs.Bytes.{Takes}
use Rattle.image_reading.specs.Tidy.{Tidy}
use Rattle.tree_model.specs.Run.{State}
use Rattle.volume.specs.Prepared.{IsSameButRoom}
use Rattle.volume.specs.Volume.{VolumeView}
use Rattle.sessions.specs.Interleave.{InterleaveView, HaveEnded, started}
use Rattle.schedules.specs.declared.weave_end.WeaveEnd.{WeaveEnd}
use Rattle.schedules.specs.declared.weave_end.WeaveEnd.TheVariants as ends
use Rattle.schedules.specs.Schedules.{RunsSchedule}
use Rattle.squirrel_cli.specs.declared.status.Status.{Status}
use Rattle.squirrel_cli.specs.declared.status.Status.TheVariants.{DeviceFault, WriteFault}
use Rattle.squirrel_cli.specs.Mounts.{ClosesAs}
use Rattle.squirrel_cli.specs.Seen.{Seen}
use Rattle.squirrel_cli.specs.Whole.{IsWholeScript, StopsBeforeLines}

-- as `EndsUnwoven`
pub record StaysUnwoven {S K : Type 0} (old new : Seen S K) (status : Status) : Type 0 where
  pub stops : StopsBeforeLines status old.left new.left
  pub room : IsSameButRoom old.device new.device
  pub unwritten : Takes old.took [] new.took

-- as `ClosesBehind`, for each history with which the sessions have ended
abbrev pub ClosesSessions : WeaveEnd → ℕ → InterleaveView → DeviceView → DeviceView → Status → Type 0
ClosesSessions ends.Done P woven ran after status = (history : State) → HaveEnded woven ran history → ClosesAs P history ran after status
ClosesSessions ends.Faulted P woven ran after status = (status ≡ DeviceFault) × (after ≡ ran)
ClosesSessions ends.WriteFault P woven ran after status = (status ≡ WriteFault) × (after ≡ ran)

-- as `FailsToBegin` or `HasWoven`, from this state
pub record WeavesLines {S K : Type 0} (volume : VolumeView) (state : State) (sessions : ℕ) (schedule : List ℕ) (old new : Seen S K) (status : Status) : Type 0 where
  pub script : List ℕ
  pub whole : IsWholeScript old.left new.left script
  pub end : WeaveEnd
  pub woven : InterleaveView
  pub ran : DeviceView
  pub runs : RunsSchedule state script schedule end (started volume sessions) woven old.device ran old.took new.took
  pub closes : ClosesSessions end volume.size woven ran new.device status

abbrev pub WeavesOn : {S K : Type 0} → VolumeView → State → ℕ → List ℕ → Seen S K → Seen S K → Status → Type 0
WeavesOn volume state sessions schedule old new status = StaysUnwoven old new status ⊎ WeavesLines volume state sessions schedule old new status

-- Where no fence failed the device is settled, and where no write failed either it is tidy.
pub record LeavesWoven (P : ℕ) (before after : DeviceView) (status : Status) : Type 0 where
  pub settled : HasRisen before.faults after.faults ⊎ IsSettledView after
  pub tidy : (status ≡ WriteFault) ⊎ HasRisen before.faults after.faults ⊎ Tidy P after.words

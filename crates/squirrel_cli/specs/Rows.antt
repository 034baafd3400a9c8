-- What each job does, a row a job: a sum of what may come, each part with its status.
use Rattle.std.specs.Prelude.{◌≡◌, ◌≢◌, ◌⊎◌, ℕ, ◌*◌, List, length, Option, Some, None}
use Rattle.pm_trait.specs.Device.{HasRisen}
use Rattle.pm_trait.specs.DeviceView.{DeviceView}
use Rattle.pm_memory.specs.Fresh.{IsNew}
use Rattle.image_reading.specs.Soundness.{IsFirstViolation, pages_in_image}
use Rattle.image_reading.specs.declared.Violation.{Violation}
use Rattle.mount_scan.specs.Mounting.{HoldsVolume, IsTidy}
use Rattle.mount_scan.specs.Mounts.{FailsToMount, IsLeftAlone, IsOnlyMounted}
use Rattle.script.specs.Texts.{not_a_volume_text, damaged_text}
use Rattle.crash_replay.specs.declared.moment.Moment.{Moment}
use Rattle.command_line.specs.declared.job.Job.{Job}
use Rattle.command_line.specs.declared.job.Job.TheVariants.{Mkfs, Run, Tree, Check, Crash, Work, Weave}
use Rattle.squirrel_cli.specs.declared.status.Status.{Status}
use Rattle.squirrel_cli.specs.declared.status.Status.TheVariants.{Usage, NoMemory, NotVolume, Damaged, DeviceFault, WriteFault}
use Rattle.squirrel_cli.specs.Ends.{IsMountable}
use Rattle.squirrel_cli.specs.Seen.{Seen, IsSilent, IsUntouched}
use Rattle.squirrel_cli.specs.Told.{IsToldOrCut}
use Rattle.squirrel_cli.specs.Formats.{FailsToFormat, HasFormatted}
use Rattle.squirrel_cli.specs.Mounts.{HasRun}
use Rattle.squirrel_cli.specs.Tells.{HasListed, HasChecked}
use Rattle.squirrel_cli.specs.Weaves.{WeavesScript}
use Rattle.squirrel_cli.specs.Works.{HasWorked}
use Rattle.squirrel_cli.specs.Replays.{HasReplayed}

-- ---- what jobs share

-- Memory was short, and nothing was read or written. The device was left alone, or mounted; where it holds no sound volume it is as it
-- was.
pub record IsShortOfMemory {S K : Type 0} (old new : Seen S K) (status : Status) : Type 0 where
  pub is : status ≡ NoMemory
  pub silent : IsSilent old new
  pub device : IsLeftAlone old.device new.device
      ⊎ IsMountable old.device.words × IsOnlyMounted (pages_in_image old.device.words) old.device new.device
  pub unsound : ¬ IsMountable old.device.words → new.device ≡ old.device

-- it is told, whole or cut by a write that failed, that the words are no volume, or which rule they break first and where
abbrev pub IsToldWhy : List ℕ → Status → (List ℕ → Type 0) → (List ℕ → Type 0) → Type 0
IsToldWhy words status took now =
    ¬ HoldsVolume words × IsToldOrCut NotVolume not_a_volume_text status took now
    ⊎ HoldsVolume words × ((violation : Violation) × IsFirstViolation words violation
    × IsToldOrCut (Damaged violation) (damaged_text violation.rule violation.place) status took now)

-- And nothing is read or stored.
pub record IsRefused {S K : Type 0} (old new : Seen S K) (status : Status) : Type 0 where
  pub device : new.device ≡ old.device
  pub script : new.script ≡ old.script
  pub told : IsToldWhy old.device.words status old.took new.took

-- A fence failed in the mount, and nothing was read or written.
pub record FailsInMount {S K : Type 0} (old new : Seen S K) (status : Status) : Type 0 where
  pub is : status ≡ DeviceFault
  pub silent : IsSilent old new
  pub mount : FailsToMount (pages_in_image old.device.words) old.device new.device

-- where no fence failed nothing is to be repaired
abbrev pub LeavesTidy : {S K : Type 0} → Seen S K → Seen S K → Type 0
LeavesTidy old new = HasRisen old.device.faults new.device.faults ⊎ IsTidy new.device.words

-- where no write failed either
abbrev pub LeavesTidyUncut : {S K : Type 0} → Seen S K → Seen S K → Status → Type 0
LeavesTidyUncut old new status = (status ≡ WriteFault) ⊎ LeavesTidy old new

-- A job that mounts the device: memory is short; or the words are no sound volume, which is told; or they are one, it is left as L says,
-- and a fence fails in the mount, or the job goes on as F says.
abbrev pub MountsAndLeaves : {S K : Type 0} → (Seen S K → Seen S K → Status → Type 0) → (Seen S K → Seen S K → Status → Type 0) → Seen S K → Seen S K → Status → Type 0
MountsAndLeaves L F old new status =
    IsShortOfMemory old new status
    ⊎ ¬ IsMountable old.device.words × IsRefused old new status
    ⊎ IsMountable old.device.words × L old new status × (FailsInMount old new status ⊎ F old new status)

-- with nothing to repair unless a fence failed
abbrev pub MountsAnd : {S K : Type 0} → (Seen S K → Seen S K → Status → Type 0) → Seen S K → Seen S K → Status → Type 0
MountsAnd F old new status = MountsAndLeaves (λ old new status. LeavesTidy old new) F old new status

-- ---- the rows

-- `mkfs`: memory is short, and the device has more room at most; or it is of another size; or a fence fails, or the volume is made.
abbrev pub Formats : {S K : Type 0} → ℕ → Seen S K → Seen S K → Status → Type 0
Formats pages old new status =
    (status ≡ NoMemory) × IsSilent old new × IsLeftAlone old.device new.device
    ⊎ (length old.device.words ≢ 512 * pages) × (status ≡ Usage) × IsUntouched old new
    ⊎ (length old.device.words ≡ 512 * pages) × (FailsToFormat pages old new status ⊎ HasFormatted pages old new status)

-- `run` mounts the volume and runs the script on it: the main promise.
abbrev pub Runs : {S K : Type 0} → Seen S K → Seen S K → Status → Type 0
Runs old new status = MountsAnd HasRun old new status

-- `tree` mounts it and lists its tree.
abbrev pub Lists : {S K : Type 0} → Seen S K → Seen S K → Status → Type 0
Lists old new status = MountsAnd HasListed old new status

-- `work` mounts it, runs the generated script on it, and tells its sums.
abbrev pub Works : {S K : Type 0} → ℕ → ℕ → Seen S K → Seen S K → Status → Type 0
Works seed count old new status = MountsAnd (HasWorked seed count) old new status

-- `weave` mounts it, and executes the lines of many sessions: the promise of many calls at once. A write that fails may leave calls in the
-- words, which the next mount repairs.
abbrev pub Weaves : {S K : Type 0} → ℕ → List ℕ → Seen S K → Seen S K → Status → Type 0
Weaves sessions schedule old new status = MountsAndLeaves LeavesTidyUncut (WeavesScript sessions schedule) old new status

-- `check` only reads the device.
abbrev pub Checks : {S K : Type 0} → Seen S K → Seen S K → Status → Type 0
Checks old new status =
    (status ≡ NoMemory) × IsUntouched old new
    ⊎ ¬ IsMountable old.device.words × IsRefused old new status
    ⊎ IsMountable old.device.words × HasChecked old new status

-- A replay of a crash mounts the volume, runs the script on it, and lists what the crash leaves.
abbrev pub ReplaysCrash : {S K : Type 0} → Moment → List ℕ → Seen S K → Seen S K → Status → Type 0
ReplaysCrash moment keep old new status = MountsAnd (HasReplayed moment keep) old new status

-- It is made on a new device of the same words, of which no fence fails; the device itself is as it was.
pub record CrashesOnCopy {S K : Type 0} (moment : Moment) (keep : List ℕ) (old new : Seen S K) (status : Status) : Type 0 where
  pub alone : new.device ≡ old.device
  pub unfailing : status ≢ DeviceFault
  pub before : DeviceView
  pub fresh : IsNew before old.device.words
  pub after : DeviceView
  pub steady : after.faults ≡ before.faults
  pub replays : ReplaysCrash moment keep (record old { device = before }) (record new { device = after }) status

-- `crash`: there is no memory for a copy, or the crash is replayed on one.
abbrev pub Crashes : {S K : Type 0} → Moment → List ℕ → Seen S K → Seen S K → Status → Type 0
Crashes moment keep old new status = (status ≡ NoMemory) × IsUntouched old new ⊎ CrashesOnCopy moment keep old new status

-- What is done where the words ask for this job. Where they ask for none the status says so, unless memory is short, and nothing is done.
abbrev pub DoesJob : {S K : Type 0} → Option Job → Seen S K → Seen S K → Status → Type 0
DoesJob None old new status = ((status ≡ Usage) ⊎ (status ≡ NoMemory)) × IsUntouched old new
DoesJob (Some (Mkfs pages)) old new status = Formats pages old new status
DoesJob (Some Run) old new status = Runs old new status
DoesJob (Some Tree) old new status = Lists old new status
DoesJob (Some Check) old new status = Checks old new status
DoesJob (Some (Crash moment keep again)) old new status = Crashes moment keep old new status
DoesJob (Some (Work seed count)) old new status = Works seed count old new status
DoesJob (Some (Weave sessions schedule)) old new status = Weaves sessions schedule old new status

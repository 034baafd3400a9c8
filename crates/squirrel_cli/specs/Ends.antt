-- How the ends of a job are told, and which starts a job needs.
use Rattle.std.specs.Prelude.{◌≡◌, ℕ, ◌*◌, ◌^◌, ◌<◌, ◌≤◌, ◌++◌, List, length, Option, Some, None}
use Rattle.pm_trait.specs.DeviceView.{DeviceView, IsSettledView}
use Rattle.command_line.specs.declared.job.Job.{Job}
use Rattle.command_line.specs.declared.job.Job.TheVariants.{Mkfs, Run, Tree, Check, Crash, Work, Weave}
use Rattle.script.specs.declared.run_end.RunEnd.{RunEnd}
use Rattle.script.specs.declared.run_end.RunEnd.TheVariants as ends
use Rattle.squirrel_cli.specs.declared.status.Status.{Status}
use Rattle.squirrel_cli.specs.declared.status.Status.TheVariants.{Done, Usage, NoMemory, NotVolume, Damaged, DeviceFault, ReadFault, WriteFault, ScriptLimit}
use Rattle.mount_scan.specs.Mounting.{IsSound}
use Rattle.script.specs.Lines.{script_limit}
use Rattle.squirrel_cli.specs.Whole.{IsKnownWithinLimits}

-- a device that a job may begin on: it is settled, and its counts are far from the end of their range
pub record IsStart (device : DeviceView) : Type 0 where
  pub settled : IsSettledView device
  pub fences : device.fences ≤ 2 ^ 32
  pub acks : device.acks ≤ 2 ^ 32

-- the words are a volume that is mounted: a sound one
abbrev pub IsMountable : List ℕ → Type 0
IsMountable words = IsSound words

-- how `run` ended that a status tells, where the volume was to be mounted: a device fault is one of the mount or of the run
abbrev pub end_of : Status → Option RunEnd
end_of Done = Some ends.Done
end_of Usage = None
end_of NoMemory = None
end_of NotVolume = None
end_of (Damaged violation) = None
end_of DeviceFault = Some ends.Faulted
end_of ReadFault = Some ends.ReadFault
end_of WriteFault = Some ends.WriteFault
end_of ScriptLimit = Some ends.Limit

-- the source gave 2^32 bytes
abbrev pub GaveAll : Option (List ℕ) → Option (List ℕ) → Type 0
GaveAll None after = Unit {0}
GaveAll (Some before) None = ⊥
GaveAll (Some before) (Some after) = (bytes : List ℕ) × (before ≡ bytes ++ after) × (length bytes ≡ script_limit)

-- the script has fewer bytes than are read at the most
abbrev pub IsShortScript : Option (List ℕ) → Type 0
IsShortScript None = ⊥
IsShortScript (Some bytes) = length bytes < script_limit

-- the script is within the limits of the job
abbrev pub IsShortFor : Job → Option (List ℕ) → Type 0
IsShortFor (Mkfs pages) left = IsShortScript left
IsShortFor Run left = IsShortScript left
IsShortFor Tree left = IsShortScript left
IsShortFor Check left = IsShortScript left
IsShortFor (Crash moment keep again) left = IsShortScript left
IsShortFor (Work seed count) left = IsShortScript left
IsShortFor (Weave sessions schedule) left = IsKnownWithinLimits left

-- the device is as the job needs it: of the right length, or a sound volume
abbrev pub IsReadyFor : Job → List ℕ → Type 0
IsReadyFor (Mkfs pages) words = length words ≡ 512 * pages
IsReadyFor Run words = IsMountable words
IsReadyFor Tree words = IsMountable words
IsReadyFor Check words = IsMountable words
IsReadyFor (Crash moment keep again) words = IsMountable words
IsReadyFor (Work seed count) words = IsMountable words
IsReadyFor (Weave sessions schedule) words = IsMountable words

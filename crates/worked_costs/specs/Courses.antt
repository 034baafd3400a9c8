-- A call by hand, whichever it is: when it may make its next step.
use Rattle.std.specs.Prelude.{ℕ, List}
use Rattle.pm_trait.specs.DeviceView.{DeviceView, IsSettledView}
use Rattle.volume.specs.Volume.{VolumeView}
use Rattle.volume.specs.declared.next.Next.{Next}
use Rattle.volume.specs.declared.next.Next.TheVariants.{More, Ended}
use Rattle.create_ops.specs.Stages as making
use Rattle.unlink_ops.specs.LinkStages as naming
use Rattle.unlink_ops.specs.RemovalStages as removing
use Rattle.rename_ptr.specs.Stages as moving
use Rattle.data_ops.specs.WriteStages as writing
use Rattle.data_ops.specs.ResizeStages as resizing
use Rattle.worked_costs.specs.declared.course.Course.{Course}
use Rattle.worked_costs.specs.declared.course.Course.TheVariants.{Make, Name, Remove, Move, Write, Resize}

-- its stage stands; the bytes are those of a write
abbrev pub StandsCourse : VolumeView → DeviceView → List ℕ → Course → Type 0
StandsCourse volume device bytes (Make running) = making.StandsStage volume device running
StandsCourse volume device bytes (Name running) = naming.StandsStage volume device running
StandsCourse volume device bytes (Remove running) = removing.StandsStage volume device running
StandsCourse volume device bytes (Move running) = moving.StandsStage volume device running
StandsCourse volume device bytes (Write running) = writing.StandsStage volume device bytes running
StandsCourse volume device bytes (Resize running) = resizing.StandsStage volume device running

abbrev pub StandsNext : VolumeView → DeviceView → List ℕ → Next Course → Type 0
StandsNext volume device bytes (More course) = StandsCourse volume device bytes course
StandsNext volume device bytes (Ended reply) = Unit {0}

-- So it is where the call goes on, and the device is settled.
pub record MayGoOn (volume : VolumeView) (device : DeviceView) (bytes : List ℕ) (next : Next Course) : Type 0 where
  pub stands : StandsNext volume device bytes next
  pub settled : IsSettledView device

-- A growth between two of its steps, as part of a running call: what stands before its next step, of the device and of the volume as they are.
use Rattle.std.specs.Prelude.{ℕ, List, Option, Some, None}
use Rattle.pm_trait.specs.DeviceView.{DeviceView}
use Rattle.pm_trait.specs.Unfolds.{events_in}
use Rattle.volatile_index.specs.Index.{pages_of}
use Rattle.volume.specs.Volume.{VolumeView}
use Rattle.volume.specs.Stages.{HasKept}
use Rattle.data_ops.specs.declared.grow.Growth.{Growth}
use Rattle.data_ops.specs.declared.grow.Progress.{Progress}
use Rattle.data_ops.specs.GrowthStages.{IsGrowthAt, KnowsGrowth, left_of_growth}

-- The growth may make its next step: its words stand, its pages are held, and the events of the steps that are left are kept.
pub record StandsGrowth (volume : VolumeView) (device : DeviceView) (growth : Growth) (bytes pages : List ℕ) (progress : Progress) : Type 0 where
  pub at : IsGrowthAt volume.size device growth bytes (pages_of volume.index growth.inode) pages progress
  pub knows : KnowsGrowth volume growth.inode pages progress
  pub kept : HasKept volume device (events_in (left_of_growth volume.size growth bytes pages progress))

abbrev pub StandsNextGrowth : VolumeView → DeviceView → Growth → List ℕ → List ℕ → Option Progress → Type 0
StandsNextGrowth volume device growth bytes pages (Some progress) = StandsGrowth volume device growth bytes pages progress
StandsNextGrowth volume device growth bytes pages None = Unit {0}

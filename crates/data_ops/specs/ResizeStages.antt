-- A truncation between two of its steps: what stands then of the device and of the volume as they are, and what the next step makes. P is
-- the number of pages, I the words.
use Rattle.std.specs.Prelude.{◌≡◌, ◌⊎◌, ℕ, ◌-◌, ◌*◌, ◌<◌, false, nat_lt, if◌then◌else◌, List, [], ◌∷◌, length, Option, Some, None}
use Rattle.pm_trait.specs.DeviceView.{DeviceView}
use Rattle.pm_trait.specs.Unfolds.{Step, events_in}
use Rattle.layout.specs.Fields.{inode_size}
use Rattle.image_reading.specs.Reading.{pages_of_size}
use Rattle.tree_model.specs.declared.reply.Reply.TheVariants.{Done}
use Rattle.volatile_index.specs.Index.{pages_of}
use Rattle.volume.specs.Prepared.{IsBoundedResizing}
use Rattle.volume.specs.Costs.{events_of}
use Rattle.volume.specs.Volume.{VolumeView}
use Rattle.volume.specs.Entered.{MayLosePages, LeavesLastPages}
use Rattle.volume.specs.Stages.{HasKept, keeping}
use Rattle.volume.specs.declared.next.Held.{Held}
use Rattle.volume.specs.declared.next.Next.{Next}
use Rattle.volume.specs.declared.next.Next.TheVariants.{More, Ended}
use Rattle.volume.specs.declared.plan.Resizing.{Resizing}
use Rattle.volume.specs.declared.plan.Action.{Action}
use Rattle.volume.specs.declared.plan.Action.TheVariants.{Make, Name, Remove, Move, Write as WriteBytes, WriteNothing, Resize, KeepSize, KeepNames, Read as ReadBytes, Status, Names, Space}
use Rattle.entry_steps.specs.Waiting.{idle_step}
use Rattle.data_ops.specs.Files.{HasPages}
use Rattle.data_ops.specs.Steps.{CanLower, CanDisown, CanRelease, sizing, giving, freeing}
use Rattle.data_ops.specs.Cutting.{gone_pages, growth_to, cut_steps}
use Rattle.data_ops.specs.GrowthStages.{IsGrowthAt, KnowsGrowth, EntersGrowth, left_of_growth, step_of_growth, next_of_growth}
use Rattle.data_ops.specs.declared.grow.Progress.{Progress}
use Rattle.data_ops.specs.declared.grow.Progress.TheVariants.{Begun as GrowthBegun}
use Rattle.data_ops.specs.declared.truncate.CutProgress.{CutProgress}
use Rattle.data_ops.specs.declared.truncate.CutProgress.TheVariants.{Begun, Lowered, Trimmed}
use Rattle.data_ops.specs.declared.truncate.Stage.{Stage}
use Rattle.data_ops.specs.declared.truncate.Stage.TheVariants.{Nothing, Growing, Cutting}

-- where a plan begins: with nothing to do, with a growth, or with a cut
abbrev pub begun_resizing : Resizing → Stage
begun_resizing resizing = if nat_lt resizing.old_size resizing.new_size then Growing resizing GrowthBegun else Cutting resizing Begun

abbrev pub begun : Action → Stage
begun (Resize resizing) = begun_resizing resizing
begun KeepSize = Nothing
begun (Make entry) = Nothing
begun (Name link) = Nothing
begun (Remove removal) = Nothing
begun (Move moving) = Nothing
begun (WriteBytes writing) = Nothing
begun WriteNothing = Nothing
begun KeepNames = Nothing
begun (ReadBytes reading) = Nothing
begun (Status inode) = Nothing
begun (Names inode) = Nothing
begun Space = Nothing

-- ---- the steps that are left; the pages are the file's

abbrev pub left_of_cut : ℕ → Resizing → List ℕ → CutProgress → List Step
left_of_cut P resizing pages Begun = cut_steps P resizing pages
left_of_cut P resizing pages Lowered = giving P (gone_pages resizing pages) ∷ freeing P (gone_pages resizing pages) ∷ []
left_of_cut P resizing pages Trimmed = freeing P (gone_pages resizing pages) ∷ []

abbrev pub left_at : ℕ → VolumeView → Stage → List Step
left_at P volume Nothing = []
left_at P volume (Growing resizing progress) = left_of_growth P (growth_to resizing) [] resizing.new_pages progress
left_at P volume (Cutting resizing progress) = left_of_cut P resizing (pages_of volume.index resizing.inode) progress

abbrev pub left_of : VolumeView → Stage → List Step
left_of volume running = left_at volume.size volume running

-- and the first of them
abbrev pub step_of_cut : ℕ → Resizing → List ℕ → CutProgress → Step
step_of_cut P resizing pages Begun = sizing resizing.inode resizing.new_size
step_of_cut P resizing pages Lowered = giving P (gone_pages resizing pages)
step_of_cut P resizing pages Trimmed = freeing P (gone_pages resizing pages)

abbrev pub step_at : ℕ → VolumeView → Stage → Step
step_at P volume Nothing = idle_step
step_at P volume (Growing resizing progress) = step_of_growth P (growth_to resizing) [] resizing.new_pages progress
step_at P volume (Cutting resizing progress) = step_of_cut P resizing (pages_of volume.index resizing.inode) progress

abbrev pub step_of : VolumeView → Stage → Step
step_of volume running = step_at volume.size volume running

-- ---- what stands before it

-- The file has its old size and these pages, and so many of them go.
pub record CanCutFile (P : ℕ) (I : List ℕ) (resizing : Resizing) (pages : List ℕ) : Type 0 where
  pub lower : CanLower P I resizing.inode resizing.new_size
  pub held : HasPages P I resizing.inode pages
  pub old_size : inode_size I resizing.inode ≡ resizing.old_size
  pub cut : resizing.cut ≡ pages_of_size resizing.old_size - pages_of_size resizing.new_size

abbrev pub IsCutAt : ℕ → List ℕ → Resizing → List ℕ → CutProgress → Type 0
IsCutAt P I resizing pages Begun = CanCutFile P I resizing pages
IsCutAt P I resizing pages Lowered = (0 < resizing.cut) × CanDisown P I resizing.inode (gone_pages resizing pages)
IsCutAt P I resizing pages Trimmed = (0 < resizing.cut) × CanRelease P I (gone_pages resizing pages)

abbrev pub IsAt : VolumeView → DeviceView → Stage → Type 0
IsAt volume device Nothing = Unit {0}
IsAt volume device (Growing resizing progress) =
    IsBoundedResizing resizing × IsGrowthAt volume.size device (growth_to resizing) [] (pages_of volume.index resizing.inode) resizing.new_pages progress
    × KnowsGrowth volume resizing.inode resizing.new_pages progress
IsAt volume device (Cutting resizing progress) =
    IsBoundedResizing resizing × IsCutAt volume.size device.words resizing (pages_of volume.index resizing.inode) progress × MayLosePages volume resizing.inode resizing.cut

-- The truncation may make its next step: its words stand, its events are kept, and its pages are held.
pub record StandsStage (volume : VolumeView) (device : DeviceView) (running : Stage) : Type 0 where
  pub going : volume.stopped ≡ false
  pub whole : length device.words ≡ 512 * volume.size
  pub at : IsAt volume device running
  pub kept : HasKept volume device (events_in (left_of volume running))

abbrev pub StandsNext : VolumeView → DeviceView → Next Stage → Type 0
StandsNext volume device (More running) = StandsStage volume device running
StandsNext volume device (Ended reply) = Unit {0}

-- The plan gives a file a size, the volume has no mark where the plan has an event, and once its events are kept, its first stage stands.
abbrev pub MayBegin : VolumeView → DeviceView → Action → Type 0
MayBegin volume device plan = (((resizing : Resizing) × (plan ≡ Resize resizing)) ⊎ (plan ≡ KeepSize)) × (0 < events_of plan → volume.marked ≡ false) × StandsStage (keeping volume plan) device (begun plan)

-- ---- what comes of it

abbrev pub next_growing : Resizing → Option Progress → Next Stage
next_growing resizing (Some progress) = More (Growing resizing progress)
next_growing resizing None = Ended Done

-- pages lose their owner and are freed where there are any
abbrev pub next_cutting : Resizing → CutProgress → Next Stage
next_cutting resizing Begun = if nat_lt 0 resizing.cut then More (Cutting resizing Lowered) else Ended Done
next_cutting resizing Lowered = More (Cutting resizing Trimmed)
next_cutting resizing Trimmed = Ended Done

-- the next stage that has a store, or the reply
abbrev pub next_of : Stage → Next Stage
next_of Nothing = Ended Done
next_of (Growing resizing progress) = next_growing resizing (next_of_growth progress resizing.new_pages)
next_of (Cutting resizing progress) = next_cutting resizing progress

-- what the volume takes in behind the step: of a cut that the pages are free, behind its last
abbrev pub EntersCut : Resizing → CutProgress → VolumeView → VolumeView → Type 0
EntersCut resizing Begun old new = new ≡ old
EntersCut resizing Lowered old new = new ≡ old
EntersCut resizing Trimmed old new = LeavesLastPages old new resizing.inode resizing.cut

abbrev pub EntersAt : Stage → VolumeView → VolumeView → Type 0
EntersAt Nothing old new = new ≡ old
EntersAt (Growing resizing progress) old new = EntersGrowth resizing.inode resizing.new_pages progress old new
EntersAt (Cutting resizing progress) old new = EntersCut resizing progress old new

-- what it holds: its new pages, or behind its commit those that it has to give back
abbrev pub held_of_cut : Resizing → CutProgress → Held
held_of_cut resizing Begun = record { inodes = 0; pages = 0 }
held_of_cut resizing Lowered = record { inodes = 0; pages = resizing.cut }
held_of_cut resizing Trimmed = record { inodes = 0; pages = resizing.cut }

abbrev pub held_of : Stage → Held
held_of Nothing = record { inodes = 0; pages = 0 }
held_of (Growing resizing progress) = record { inodes = 0; pages = length resizing.new_pages }
held_of (Cutting resizing progress) = held_of_cut resizing progress

-- A write between two of its steps: what stands then of the device and of the volume as they are, and what the next step makes. P is the
-- number of pages. The bytes are those that each call of one write is handed.
use Rattle.std.specs.Prelude.{◌≡◌, ◌⊎◌, ℕ, ◌+◌, ◌*◌, ◌^◌, ◌<◌, ◌≤◌, false, nat_le, if◌then◌else◌, List, [], ◌∷◌, length, Option, Some, None}
use Rattle.pm_trait.specs.DeviceView.{DeviceView}
use Rattle.pm_trait.specs.Unfolds.{Step, events_in}
use Rattle.layout.specs.Fields.{inode_size}
use Rattle.tree_model.specs.declared.reply.Reply.TheVariants.{Count}
use Rattle.volatile_index.specs.Index.{pages_of, inodes_of_index}
use Rattle.volume.specs.Prepared.{IsBoundedWriting}
use Rattle.volume.specs.Costs.{events_of}
use Rattle.volume.specs.Volume.{VolumeView}
use Rattle.volume.specs.Stages.{HasKept, keeping}
use Rattle.volume.specs.declared.next.Held.{Held}
use Rattle.volume.specs.declared.next.Next.{Next}
use Rattle.volume.specs.declared.next.Next.TheVariants.{More, Ended}
use Rattle.volume.specs.declared.plan.Writing.{Writing}
use Rattle.volume.specs.declared.plan.Action.{Action}
use Rattle.volume.specs.declared.plan.Action.TheVariants.{Make, Name, Remove, Move, Write as WriteBytes, WriteNothing, Resize, KeepSize, KeepNames, Read as ReadBytes, Status, Names, Space}
use Rattle.entry_steps.specs.Waiting.{idle_step}
use Rattle.data_ops.specs.Files.{HasPages}
use Rattle.data_ops.specs.Writing.{growth_of, overwriting}
use Rattle.data_ops.specs.GrowthStages.{IsGrowthAt, KnowsGrowth, EntersGrowth, left_of_growth, step_of_growth, next_of_growth}
use Rattle.data_ops.specs.declared.grow.Progress.{Progress}
use Rattle.data_ops.specs.declared.grow.Progress.TheVariants.{Begun}
use Rattle.data_ops.specs.declared.write.Stage.{Stage}
use Rattle.data_ops.specs.declared.write.Stage.TheVariants.{Nothing, Inside, Growing}

-- where a plan begins: with nothing to do, inside the size, or with a growth
abbrev pub begun_writing : Writing → Stage
begun_writing writing = if nat_le (writing.offset + writing.count) writing.old_size then Inside writing else Growing writing Begun

abbrev pub begun : Action → Stage
begun (WriteBytes writing) = begun_writing writing
begun WriteNothing = Nothing
begun (Make entry) = Nothing
begun (Name link) = Nothing
begun (Remove removal) = Nothing
begun (Move moving) = Nothing
begun (Resize resizing) = Nothing
begun KeepSize = Nothing
begun KeepNames = Nothing
begun (ReadBytes reading) = Nothing
begun (Status inode) = Nothing
begun (Names inode) = Nothing
begun Space = Nothing

-- ---- the steps that are left

abbrev pub left_of : ℕ → List ℕ → Stage → List Step
left_of P bytes Nothing = []
left_of P bytes (Inside writing) = overwriting P writing.inode writing.offset bytes ∷ []
left_of P bytes (Growing writing progress) = left_of_growth P (growth_of writing) bytes writing.new_pages progress

-- and the first of them
abbrev pub step_of : ℕ → List ℕ → Stage → Step
step_of P bytes Nothing = idle_step
step_of P bytes (Inside writing) = overwriting P writing.inode writing.offset bytes
step_of P bytes (Growing writing progress) = step_of_growth P (growth_of writing) bytes writing.new_pages progress

-- ---- what stands before it

-- The range has a byte and lies below the size of the file, whose pages these are.
pub record CanOverwrite (P : ℕ) (I : List ℕ) (writing : Writing) (bytes pages : List ℕ) : Type 0 where
  pub held : HasPages P I writing.inode pages
  pub some : 0 < length bytes
  pub inside : writing.offset + length bytes ≤ inode_size I writing.inode
  pub small : inode_size I writing.inode ≤ 2 ^ 40

-- The file is one of the index, and the bytes are as many as its plan says, which has its bounds.
pub record IsWriteAt (volume : VolumeView) (writing : Writing) (bytes : List ℕ) : Type 0 where
  pub bounded : IsBoundedWriting writing
  pub least : 1 ≤ writing.inode
  pub most : writing.inode ≤ inodes_of_index volume.index
  pub count : writing.count ≡ length bytes

abbrev pub IsAt : VolumeView → DeviceView → List ℕ → Stage → Type 0
IsAt volume device bytes Nothing = bytes ≡ []
IsAt volume device bytes (Inside writing) = IsWriteAt volume writing bytes × CanOverwrite volume.size device.words writing bytes (pages_of volume.index writing.inode)
IsAt volume device bytes (Growing writing progress) =
    IsWriteAt volume writing bytes × IsGrowthAt volume.size device (growth_of writing) bytes (pages_of volume.index writing.inode) writing.new_pages progress
    × KnowsGrowth volume writing.inode writing.new_pages progress

-- The write may make its next step: its words stand, its events are kept, and its pages are held.
pub record StandsStage (volume : VolumeView) (device : DeviceView) (bytes : List ℕ) (running : Stage) : Type 0 where
  pub going : volume.stopped ≡ false
  pub whole : length device.words ≡ 512 * volume.size
  pub at : IsAt volume device bytes running
  pub kept : HasKept volume device (events_in (left_of volume.size bytes running))

abbrev pub StandsNext : VolumeView → DeviceView → List ℕ → Next Stage → Type 0
StandsNext volume device bytes (More running) = StandsStage volume device bytes running
StandsNext volume device bytes (Ended reply) = Unit {0}

-- The plan writes, the volume has no mark where the plan has an event, and once its events are kept, its first stage stands.
abbrev pub MayBegin : VolumeView → DeviceView → List ℕ → Action → Type 0
MayBegin volume device bytes plan = (((writing : Writing) × (plan ≡ WriteBytes writing)) ⊎ (plan ≡ WriteNothing)) × (0 < events_of plan → volume.marked ≡ false) × StandsStage (keeping volume plan) device bytes (begun plan)

-- ---- what comes of it

abbrev pub next_growing : Writing → Option Progress → Next Stage
next_growing writing (Some progress) = More (Growing writing progress)
next_growing writing None = Ended (Count writing.count)

-- the next stage that has a store, or the reply
abbrev pub next_of : Stage → Next Stage
next_of Nothing = Ended (Count 0)
next_of (Inside writing) = Ended (Count writing.count)
next_of (Growing writing progress) = next_growing writing (next_of_growth progress writing.new_pages)

-- what the volume takes in behind the step
abbrev pub EntersAt : Stage → VolumeView → VolumeView → Type 0
EntersAt Nothing old new = new ≡ old
EntersAt (Inside writing) old new = new ≡ old
EntersAt (Growing writing progress) old new = EntersGrowth writing.inode writing.new_pages progress old new

-- what it holds: its new pages
abbrev pub held_of : Stage → Held
held_of Nothing = record { inodes = 0; pages = 0 }
held_of (Inside writing) = record { inodes = 0; pages = 0 }
held_of (Growing writing progress) = record { inodes = 0; pages = length writing.new_pages }

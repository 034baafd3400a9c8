-- A write and a truncation, beside other calls: how they begin, and that one by which a file grows may go on. P is the number of pages.
use Rattle.std.specs.Prelude.{◌≡◌, ℕ, List, []}
use Rattle.pm_trait.specs.DeviceView.{DeviceView}
use Rattle.pm_trait.specs.Unfolds.{events_in}
use Rattle.tree_model.specs.PathText.{Route}
use Rattle.tree_model.specs.Run.{State}
use Rattle.tree_model.specs.declared.command.Command.TheVariants.{Write, Truncate}
use Rattle.image_reading.specs.Residue.{Residue, no_residue}
use Rattle.image_laws.specs.CreateStep.{IsStepped}
use Rattle.volume.specs.Volume.{VolumeView}
use Rattle.volume.specs.Prepared.{IsBoundedResizing}
use Rattle.volume.specs.Stages.{HasKept, keeping}
use Rattle.volume.specs.declared.plan.Writing.{Writing}
use Rattle.volume.specs.declared.plan.Resizing.{Resizing}
use Rattle.volume.specs.declared.plan.Action.TheVariants.{Write as WriteBytes, Resize}
use Rattle.data_ops.specs.declared.grow.Progress.{Progress}
use Rattle.data_ops.specs.declared.truncate.Stage.TheVariants.{Growing as Lengthening}
use Rattle.data_ops.specs.declared.write.Stage.TheVariants.{Inside, Growing}
use Rattle.data_ops.specs.Cutting.{growth_to}
use Rattle.data_ops.specs.Writing.{growth_of}
use Rattle.data_ops.specs.ResizeStages as resizes
use Rattle.data_ops.specs.WriteStages as writes
use Rattle.data_ops.specs.WriteStages.{IsWriteAt}
use Rattle.waiting_laws.specs.Beside.{IsReady, MakesStep, Leaves}
use Rattle.waiting_laws.specs.Growing.{file_held_by, WaitsToGrow, TearsFile}

-- ---- it begins

abbrev pub WritingBeginsLaw : Type 0
WritingBeginsLaw = (volume : VolumeView) (device : DeviceView) (state : State) (path : Route) (writing : Writing) (bytes : List ℕ) (others : Residue)
    → IsReady volume device state (Write path writing.offset bytes) (WriteBytes writing) others → writes.MayBegin volume device bytes (WriteBytes writing)

abbrev pub ResizingBeginsLaw : Type 0
ResizingBeginsLaw = (volume : VolumeView) (device : DeviceView) (state : State) (path : Route) (resizing : Resizing) (others : Residue)
    → IsReady volume device state (Truncate path resizing.new_size) (Resize resizing) others → resizes.MayBegin volume device (Resize resizing)

-- Inside the size the first step of a write is its last, and commits it: a crash leaves the range torn (no node is new: id n is not read).
abbrev pub WritingInsideLaw : Type 0
WritingInsideLaw = (volume new : VolumeView) (before after : DeviceView) (state : State) (path : Route) (writing : Writing) (bytes : List ℕ) (n : ℕ) (others : Residue)
    → IsReady volume before state (Write path writing.offset bytes) (WriteBytes writing) others → writes.begun_writing writing ≡ Inside writing
    → MakesStep (writes.step_of volume.size bytes (Inside writing)) (writes.EntersAt (Inside writing)) (keeping volume (WriteBytes writing)) new before after
    → (stepped : IsStepped volume.size after.words state (Write path writing.offset bytes) n)
    × TearsFile volume.size before.words after.words state stepped.new writing.inode writing.offset bytes
    × Leaves volume new before after stepped.new no_residue others (file_held_by volume writing.inode [])

-- ---- it may make its next step, where its events are kept

abbrev pub WritingStandsLaw : Type 0
WritingStandsLaw = (volume : VolumeView) (device : DeviceView) (state : State) (writing : Writing) (bytes : List ℕ) (progress : Progress) (others : Residue) → IsWriteAt volume writing bytes
    → WaitsToGrow volume device state (growth_of writing) bytes writing.new_pages progress others → HasKept volume device (events_in (writes.left_of volume.size bytes (Growing writing progress)))
    → writes.StandsStage volume device bytes (Growing writing progress)

abbrev pub ResizingStandsLaw : Type 0
ResizingStandsLaw = (volume : VolumeView) (device : DeviceView) (state : State) (resizing : Resizing) (progress : Progress) (others : Residue) → IsBoundedResizing resizing
    → WaitsToGrow volume device state (growth_to resizing) [] resizing.new_pages progress others → HasKept volume device (events_in (resizes.left_of volume (Lengthening resizing progress)))
    → resizes.StandsStage volume device (Lengthening resizing progress)

-- Behind a later step of a call that writes a file past its end, or gives it another size: it waits again, or has ended.
use Rattle.std.proofs.Common.{◌≡◌, ℕ, ◌<◌, List, [], length, Some, refl, sym, subst}
use Rattle.pm_trait.specs.DeviceView.{DeviceView}
use Rattle.tree_model.specs.Run.{State}
use Rattle.tree_model.specs.PathText.{Route}
use Rattle.tree_model.specs.Tree.{id_at}
use Rattle.tree_model.specs.declared.command.Command.{Command}
use Rattle.tree_model.specs.declared.command.Command.TheVariants.{Write, Truncate}
use Rattle.image_reading.specs.Residue.{Residue}
use Rattle.volume.specs.Volume.{VolumeView}
use Rattle.volume.specs.declared.plan.Writing.{Writing}
use Rattle.volume.specs.declared.plan.Resizing.{Resizing}
use Rattle.data_ops.specs.declared.grow.Progress.{Progress}
use Rattle.data_ops.specs.declared.grow.Progress.TheVariants.{Begun, Filled, Owned}
use Rattle.data_ops.specs.declared.write.Stage.{Stage as WriteStage}
use Rattle.data_ops.specs.declared.write.Stage.TheVariants.{Nothing as NothingWritten, Inside, Growing as GrowsByWrite}
use Rattle.data_ops.specs.declared.truncate.Stage.{Stage as ResizeStage}
use Rattle.data_ops.specs.declared.truncate.Stage.TheVariants.{Nothing as SizeKept, Growing as GrowsBySize, Cutting}
use Rattle.data_ops.specs.declared.truncate.CutProgress.{CutProgress}
use Rattle.data_ops.specs.declared.truncate.CutProgress.TheVariants.{Begun as CutBegun, Lowered, Trimmed}
use Rattle.data_ops.specs.Cutting.{growth_to}
use Rattle.data_ops.specs.Growing.{IsGrowing}
use Rattle.data_ops.specs.Writing.{growth_of}
use Rattle.data_ops.specs.WriteStages.{IsWriteAt}
use Rattle.data_ops.specs.WriteStages as writes
use Rattle.data_ops.specs.ResizeStages as resizes
use Rattle.running_calls.specs.declared.running.Running.TheVariants.{Writes, Resizes}
use Rattle.running_calls.specs.Stages.{StandsNext, EntersAt, as_call, step_of}
use Rattle.waiting_laws.specs.Beside.{MakesStep}
use Rattle.waiting_laws.specs.Cutting.{WaitsToCut}
use Rattle.waiting_laws.specs.Growing.{WaitsToGrow}
use Rattle.waiting_laws.proofs.CuttingSteps.{cut_trimmed_law, cut_ends_law}
use Rattle.waiting_laws.proofs.GrowingEnds.{growth_ends_law}
use Rattle.waiting_laws.proofs.GrowingOwned.{growth_owned_law}
use Rattle.running_laws.specs.Steps.{WentOnBeside}
use Rattle.running_laws.specs.Waits.{bytes_of_command, WaitsToWrite, WaitsToResize}
use Rattle.running_laws.proofs.CrashLater.{written}

module _ (old new : VolumeView) (before after : DeviceView) (state : State) (others : Residue) where
  -- ---- a write

  abbrev WriteWent : Command → WriteStage → Type 0
  WriteWent command running =
      MakesStep (step_of old (bytes_of_command command) (Writes running)) (EntersAt (Writes running)) old new before after
      → StandsNext new after (bytes_of_command command) (as_call Writes (writes.next_of running))
      → WentOnBeside old new before after state command (Writes running) (as_call Writes (writes.next_of running)) others

  growing_write : (path : Route) (writing : Writing) (bytes : List ℕ) (progress : Progress) → id_at state.tree path ≡ Some writing.inode → IsWriteAt old writing bytes
      → 0 < length bytes
      → WaitsToGrow old before state (growth_of writing) bytes writing.new_pages progress others → WriteWent (Write path writing.offset bytes) (GrowsByWrite writing progress)
  growing_write path writing bytes Begun named at some on makes stands = absurd on.new_pages
  growing_write path writing bytes Filled named at some on makes stands =
      let again = growth_owned_law old new before after state (growth_of writing) bytes writing.new_pages Filled Owned others on makes refl
      (record { at = stands.at.1; knows = stands.at.2; kept = stands.kept }) in
      record { later = state; means = refl; leaves = again.leaves; waits = (path, bytes, refl, named, stands.at.0, some, again.waits) }
  growing_write path writing bytes Owned named at some on makes stands =
      let (commits, leaves) = growth_ends_law old new before after state path (Write path writing.offset bytes) (growth_of writing) bytes writing.new_pages Owned 0 others on
      (written old writing bytes path at some) named makes refl in
      record { later = commits.stepped.new; means = record { tree = commits.stepped.tree; room = commits.stepped.room }; leaves = leaves; waits = tt }

  pub write_goes : (command : Command) (running : WriteStage) → WaitsToWrite old before state command running others → WriteWent command running
  write_goes command NothingWritten waits = absurd waits
  write_goes command (Inside writing) waits = absurd waits
  write_goes command (GrowsByWrite writing progress) (path, bytes, is, named, at, some, on) =
      subst (λ c. WriteWent c (GrowsByWrite writing progress)) (sym is) (growing_write path writing bytes progress named at some on)

  -- ---- another size

  abbrev SizeWent : Command → ResizeStage → Type 0
  SizeWent command running =
      MakesStep (step_of old (bytes_of_command command) (Resizes running)) (EntersAt (Resizes running)) old new before after
      → StandsNext new after (bytes_of_command command) (as_call Resizes (resizes.next_of running))
      → WentOnBeside old new before after state command (Resizes running) (as_call Resizes (resizes.next_of running)) others

  longer : (path : Route) (resizing : Resizing) (progress : Progress) → id_at state.tree path ≡ Some resizing.inode
      → WaitsToGrow old before state (growth_to resizing) [] resizing.new_pages progress others → SizeWent (Truncate path resizing.new_size) (GrowsBySize resizing progress)
  longer path resizing Begun named on makes stands = absurd on.new_pages
  longer path resizing Filled named on makes stands =
      let again = growth_owned_law old new before after state (growth_to resizing) [] resizing.new_pages Filled Owned others on makes refl
      (record { at = stands.at.1; knows = stands.at.2; kept = stands.kept }) in
      record { later = state; means = refl; leaves = again.leaves; waits = (path, refl, named, stands.at.0, again.waits) }
  longer path resizing Owned named on makes stands =
      let (commits, leaves) = growth_ends_law old new before after state path (Truncate path resizing.new_size) (growth_to resizing) [] resizing.new_pages Owned 0 others on
      (IsGrowing.truncate refl refl) named makes refl in
      record { later = commits.stepped.new; means = record { tree = commits.stepped.tree; room = commits.stepped.room }; leaves = leaves; waits = tt }

  shorter : (path : Route) (resizing : Resizing) (progress : CutProgress) → WaitsToCut old before state resizing progress others
      → SizeWent (Truncate path resizing.new_size) (Cutting resizing progress)
  shorter path resizing CutBegun on makes stands = absurd on.cut
  shorter path resizing Lowered on makes stands =
      let again = cut_trimmed_law old new before after state resizing Lowered Trimmed others on makes refl stands in
      record { later = state; means = refl; leaves = again.leaves; waits = (path, refl, again.waits) }
  shorter path resizing Trimmed on makes stands =
      record { later = state; means = refl; leaves = cut_ends_law old new before after state resizing Trimmed others on makes refl; waits = tt }

  pub size_goes : (command : Command) (running : ResizeStage) → WaitsToResize old before state command running others → SizeWent command running
  size_goes command SizeKept waits = absurd waits
  size_goes command (GrowsBySize resizing progress) (path, is, named, bounded, on) =
      subst (λ c. SizeWent c (GrowsBySize resizing progress)) (sym is) (longer path resizing progress named on)
  size_goes command (Cutting resizing progress) (path, is, on) = subst (λ c. SizeWent c (Cutting resizing progress)) (sym is) (shorter path resizing progress on)

-- What a crash leaves in a step of a call that waits, whatever its command: by the command.
use Rattle.std.proofs.Common.{◌≡◌, ℕ, ◌+◌, ◌<◌, List, [], length, None, Some, refl, sym, ap, subst}
use Rattle.pm_trait.specs.DeviceView.{DeviceView}
use Rattle.tree_model.specs.Run.{State}
use Rattle.tree_model.specs.PathText.{Route}
use Rattle.tree_model.specs.Tree.{id_at}
use Rattle.tree_model.specs.Step.{making as made_by}
use Rattle.tree_model.specs.declared.command.Command.{Command}
use Rattle.tree_model.specs.declared.command.Command.TheVariants.{Link, Write, Truncate}
use Rattle.image_reading.specs.Residue.{Residue}
use Rattle.volume.specs.Volume.{VolumeView}
use Rattle.volume.specs.declared.plan.Writing.{Writing}
use Rattle.volume.specs.declared.plan.Resizing.{Resizing}
use Rattle.create_ops.specs.Stages as entries
use Rattle.unlink_ops.specs.LinkStages as links
use Rattle.unlink_ops.specs.declared.removal.Stage.{Stage as RemovalStage}
use Rattle.unlink_ops.specs.declared.removal.Stage.TheVariants.{Begun as NameThere, Unnamed, Cleared as SlotCleared, Disowned as PagesDisowned}
use Rattle.unlink_ops.specs.RemovalStages as removals
use Rattle.data_ops.specs.declared.grow.Progress.{Progress}
use Rattle.data_ops.specs.declared.grow.Progress.TheVariants.{Begun, Filled, Owned}
use Rattle.data_ops.specs.declared.write.Stage.{Stage as WriteStage}
use Rattle.data_ops.specs.declared.write.Stage.TheVariants.{Nothing as NothingWritten, Inside, Growing as GrowsByWrite}
use Rattle.data_ops.specs.declared.truncate.Stage.{Stage as ResizeStage}
use Rattle.data_ops.specs.declared.truncate.Stage.TheVariants.{Nothing as SizeKept, Growing as GrowsBySize, Cutting}
use Rattle.data_ops.specs.declared.truncate.CutProgress.{CutProgress}
use Rattle.data_ops.specs.declared.truncate.CutProgress.TheVariants.{Begun as CutBegun, Lowered, Trimmed}
use Rattle.data_ops.specs.declared.grow.Growth.{Growth}
use Rattle.data_ops.specs.Cutting.{growth_to}
use Rattle.data_ops.specs.Growing.{IsGrowing}
use Rattle.data_ops.specs.GrowthStages.{step_of_growth}
use Rattle.data_ops.specs.Writing.{growth_of}
use Rattle.data_ops.specs.WriteStages.{IsWriteAt}
use Rattle.data_ops.specs.ResizeStages as resizes
use Rattle.running_calls.specs.declared.running.Running.{Running}
use Rattle.running_calls.specs.declared.running.Running.TheVariants.{Makes, Links, Removes, Moves, Writes, Resizes}
use Rattle.running_calls.specs.Stages.{step_of}
use Rattle.waiting_laws.specs.Crashes.{commits_entry, commits_name}
use Rattle.waiting_laws.specs.Cutting.{WaitsToCut}
use Rattle.waiting_laws.specs.Growing.{WaitsToGrow}
use Rattle.waiting_laws.specs.Linking.{WaitsToLink}
use Rattle.waiting_laws.specs.Making.{WaitsToMake}
use Rattle.waiting_laws.specs.Removing.{WaitsToRemove}
use Rattle.waiting_laws.proofs.ContentCrash.{growth_quiet_law, growth_commits_law, cut_quiet_law}
use Rattle.waiting_laws.proofs.NamedCrashLinking.{linking_quiet, linking_commits}
use Rattle.waiting_laws.proofs.NamedCrashMaking.{making_quiet, making_commits}
use Rattle.waiting_laws.proofs.RemovingWaits.{at}
use Rattle.waiting_laws.proofs.UnnamedCrash.{removing_quiet_law}
use Rattle.running_laws.specs.Crashes.{CrashIs, LaterCrashLaw}
use Rattle.running_laws.specs.Steps.{commits, commits_growth, commits_cut, given_inode}
use Rattle.running_laws.specs.Waits.{bytes_of_command, Waits, WaitsToWrite, WaitsToResize}
use Rattle.running_laws.proofs.CrashMeans.{crash_by, linked_as}

-- a write of some bytes grows its file so
pub written : (volume : VolumeView) (writing : Writing) (bytes : List ℕ) (path : Route) → IsWriteAt volume writing bytes → 0 < length bytes
    → IsGrowing (growth_of writing) bytes path (Write path writing.offset bytes)
written volume writing bytes path at some = IsGrowing.write (ap (λ n. writing.offset + n) at.count) some

module _ (volume : VolumeView) (device : DeviceView) (state : State) (others : Residue) (J : List ℕ) where
  abbrev Leaves : Command → Running → Type 0
  Leaves command running = CrashIs (commits running) None volume.size device.words J state command (given_inode running)

  abbrev Made : Command → Running → Type 0
  Made command running = (step_of volume (bytes_of_command command) running).Makes device.words J

  -- ---- names

  of_making : (path : Route) (running : entries.RunningView) → WaitsToMake volume device state path running others → (entries.step_of volume.size running).Makes device.words J
      → Leaves (made_by running.entry.kind path) (Makes running)
  of_making path running on made = crash_by (commits_entry running.stage) volume.size device.words J state (made_by running.entry.kind path) running.entry.inode
      (λ last. making_commits volume device state path running others J on last made) (λ other. making_quiet volume device state path running others J on other made)

  of_linking : (from path : Route) (running : links.RunningView) → WaitsToLink volume device state from path running others
      → (links.step_of volume.size running).Makes device.words J
      → Leaves (Link from path) (Links running)
  of_linking from path running on made = crash_by (commits_name running.stage) volume.size device.words J state (Link from path) 0
      (λ last. linked_as volume.size device.words J state from path running.link.inode 0 (linking_commits volume device state from path running others J on last made))
      (λ other. linking_quiet volume device state from path running others J on other made)

  -- one that goes has committed
  of_removing : (command : Command) (running : removals.RunningView) (stage : RemovalStage) → WaitsToRemove volume device state (at running.removal stage) others
      → (removals.step_of volume (at running.removal stage)).Makes device.words J → Leaves command (Removes (at running.removal stage))
  of_removing command running NameThere on made = absurd on.falling
  of_removing command running Unnamed on made = removing_quiet_law volume device state (at running.removal Unnamed) others J on made
  of_removing command running SlotCleared on made = removing_quiet_law volume device state (at running.removal SlotCleared) others J on made
  of_removing command running PagesDisowned on made = removing_quiet_law volume device state (at running.removal PagesDisowned) others J on made

  -- ---- files

  of_growth : (path : Route) (command : Command) (growth : Growth) (bytes pages : List ℕ) (progress : Progress) → WaitsToGrow volume device state growth bytes pages progress others
      → IsGrowing growth bytes path command → id_at state.tree path ≡ Some growth.inode → (step_of_growth volume.size growth bytes pages progress).Makes device.words J
      → CrashIs (commits_growth progress) None volume.size device.words J state command 0
  of_growth path command growth bytes pages Begun on grows named made = absurd on.new_pages
  of_growth path command growth bytes pages Filled on grows named made = growth_quiet_law volume device state growth bytes pages others J on made
  of_growth path command growth bytes pages Owned on grows named made = growth_commits_law volume device state path command growth bytes pages 0 others J on grows named made

  of_cut : (command : Command) (resizing : Resizing) (progress : CutProgress) → WaitsToCut volume device state resizing progress others
      → (resizes.step_of volume (Cutting resizing progress)).Makes device.words J → CrashIs (commits_cut progress) None volume.size device.words J state command 0
  of_cut command resizing CutBegun on made = absurd on.cut
  of_cut command resizing Lowered on made = cut_quiet_law volume device state resizing Lowered others J on made
  of_cut command resizing Trimmed on made = cut_quiet_law volume device state resizing Trimmed others J on made

  by_write : (command : Command) (running : WriteStage) → WaitsToWrite volume device state command running others → Made command (Writes running) → Leaves command (Writes running)
  by_write command NothingWritten waits made = absurd waits
  by_write command (Inside writing) waits made = absurd waits
  by_write command (GrowsByWrite writing progress) (path, bytes, is, named, at, some, on) made =
      subst (λ c. Leaves c (Writes (GrowsByWrite writing progress))) (sym is)
      (of_growth path (Write path writing.offset bytes) (growth_of writing) bytes writing.new_pages progress on (written volume writing bytes path at some) named
      (subst (λ c. Made c (Writes (GrowsByWrite writing progress))) is made))

  by_size : (command : Command) (running : ResizeStage) → WaitsToResize volume device state command running others → Made command (Resizes running)
      → Leaves command (Resizes running)
  by_size command SizeKept waits made = absurd waits
  by_size command (GrowsBySize resizing progress) (path, is, named, bounded, on) made =
      subst (λ c. Leaves c (Resizes (GrowsBySize resizing progress))) (sym is)
      (of_growth path (Truncate path resizing.new_size) (growth_to resizing) [] resizing.new_pages progress on (IsGrowing.truncate refl refl) named made)
  by_size command (Cutting resizing progress) (path, is, on) made = of_cut command resizing progress on made

  -- ---- by its kind

  by_kind : (command : Command) (running : Running) → Waits volume device state command running others → Made command running → Leaves command running
  by_kind command (Makes running) (path, is, on) made = subst (λ c. Leaves c (Makes running)) (sym is) (of_making path running on made)
  by_kind command (Links running) (from, path, is, on) made = subst (λ c. Leaves c (Links running)) (sym is) (of_linking from path running on made)
  by_kind command (Removes running) (path, is, on) made = of_removing command running running.stage on made
  by_kind command (Moves running) waits made = absurd waits
  by_kind command (Writes running) waits made = by_write command running waits made
  by_kind command (Resizes running) waits made = by_size command running waits made

pub later_crash_law : LaterCrashLaw
later_crash_law volume device state command running others J waits made = by_kind volume device state others J command running waits made

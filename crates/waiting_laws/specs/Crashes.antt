-- What a crash in a step leaves, of the words alone: also where the step's fence fails, and nothing else is known of what comes behind it. P is
-- the number of pages, J the words that the step makes. (Where a step commits a command that makes no node, id n is not read.)
use Rattle.std.specs.Prelude.{◌≡◌, ℕ, Bool, true, false, List, Some}
use Rattle.pm_trait.specs.DeviceView.{DeviceView}
use Rattle.tree_model.specs.PathText.{Route}
use Rattle.tree_model.specs.Tree.{id_at}
use Rattle.tree_model.specs.Run.{State}
use Rattle.tree_model.specs.Step.{making as made_by}
use Rattle.tree_model.specs.declared.command.Command.{Command}
use Rattle.tree_model.specs.declared.command.Command.TheVariants.{Link, Rename, Write, Truncate}
use Rattle.fence_token.specs.declared.states.Clean.{Clean}
use Rattle.image_reading.specs.Residue.{Residue}
use Rattle.image_laws.specs.CreateStep.{IsStepped}
use Rattle.volume.specs.Volume.{VolumeView}
use Rattle.volume.specs.declared.plan.NewEntry.{NewEntry}
use Rattle.volume.specs.declared.plan.NewName.{NewName}
use Rattle.volume.specs.declared.plan.Removal.{Removal}
use Rattle.volume.specs.declared.plan.Moving.{Moving}
use Rattle.volume.specs.declared.plan.Writing.{Writing}
use Rattle.volume.specs.declared.plan.Resizing.{Resizing}
use Rattle.volume.specs.declared.plan.Action.{Action}
use Rattle.volume.specs.declared.plan.Action.TheVariants.{Make, Name, Remove, Write as WriteBytes, Resize}
use Rattle.entry_steps.specs.declared.place.NamePlace.{NamePlace}
use Rattle.entry_steps.specs.declared.place.NamePlace.TheVariants.{Slot, Page}
use Rattle.create_ops.specs.declared.run.Stage as entries
use Rattle.create_ops.specs.Stages as create_stages
use Rattle.unlink_ops.specs.declared.link.Stage as links
use Rattle.unlink_ops.specs.LinkStages as link_stages
use Rattle.unlink_ops.specs.RemovalStages as removals
use Rattle.rename_ptr.specs.declared.rename.Progress.{Progress as MoveProgress}
use Rattle.rename_ptr.specs.declared.rename.Progress.TheVariants.{Pointed}
use Rattle.rename_ptr.specs.declared.rename.Stage.TheVariants.{Moving as Moves}
use Rattle.rename_ptr.specs.Stages as moves
use Rattle.data_ops.specs.declared.grow.Growth.{Growth}
use Rattle.data_ops.specs.declared.grow.Progress.TheVariants.{Begun, Filled, Owned}
use Rattle.data_ops.specs.declared.truncate.CutProgress.{CutProgress}
use Rattle.data_ops.specs.declared.truncate.CutProgress.TheVariants.{Begun as CutBegun}
use Rattle.data_ops.specs.declared.truncate.Stage.TheVariants.{Cutting}
use Rattle.data_ops.specs.declared.write.Stage.TheVariants.{Inside}
use Rattle.data_ops.specs.Growing.{IsGrowing}
use Rattle.data_ops.specs.GrowthStages.{step_of_growth}
use Rattle.data_ops.specs.ResizeStages as resizes
use Rattle.data_ops.specs.WriteStages as writes
use Rattle.waiting_laws.specs.Beside.{IsReady, KeepsMeaning, Commits}
use Rattle.waiting_laws.specs.Cutting.{WaitsToCut}
use Rattle.waiting_laws.specs.Growing.{WaitsToGrow, TearsFile, IsGrowthOf}
use Rattle.waiting_laws.specs.Linking.{WaitsToLink}
use Rattle.waiting_laws.specs.Making.{WaitsToMake}
use Rattle.waiting_laws.specs.Moving.{WaitsToMove}
use Rattle.waiting_laws.specs.Removing as removing
use Rattle.waiting_laws.specs.Removing.{WaitsToRemove}

-- a name that stands in a page of its directory gets its number next
abbrev pub is_in_place : NamePlace Clean → Bool
is_in_place (Slot dentry) = true
is_in_place (Page page) = false

-- ---- an entry is made

abbrev pub commits_entry : entries.Stage → Bool
commits_entry entries.TheVariants.Begun = false
commits_entry (entries.TheVariants.Written node) = is_in_place node.place
commits_entry (entries.TheVariants.Claimed node) = true

abbrev pub MakingFirstCrashLaw : Type 0
MakingFirstCrashLaw = (volume : VolumeView) (device : DeviceView) (state : State) (path : Route) (entry : NewEntry) (others : Residue) (J : List ℕ)
    → IsReady volume device state (made_by entry.kind path) (Make entry) others → (create_stages.step_of volume.size (create_stages.begun entry)).Makes device.words J → KeepsMeaning volume.size device.words J

abbrev pub MakingQuietLaw : Type 0
MakingQuietLaw = (volume : VolumeView) (device : DeviceView) (state : State) (path : Route) (running : create_stages.RunningView) (others : Residue) (J : List ℕ)
    → WaitsToMake volume device state path running others → commits_entry running.stage ≡ false → (create_stages.step_of volume.size running).Makes device.words J → KeepsMeaning volume.size device.words J

abbrev pub MakingCommitsLaw : Type 0
MakingCommitsLaw = (volume : VolumeView) (device : DeviceView) (state : State) (path : Route) (running : create_stages.RunningView) (others : Residue) (J : List ℕ)
    → WaitsToMake volume device state path running others → commits_entry running.stage ≡ true → (create_stages.step_of volume.size running).Makes device.words J
    → Commits volume.size device.words J state (made_by running.entry.kind path) running.entry.inode

-- ---- a file gets one more name

abbrev pub commits_name : links.Stage → Bool
commits_name links.TheVariants.Begun = false
commits_name (links.TheVariants.Written file) = is_in_place file.place
commits_name (links.TheVariants.Claimed file) = true

abbrev pub LinkingFirstCrashLaw : Type 0
LinkingFirstCrashLaw = (volume : VolumeView) (device : DeviceView) (state : State) (from path : Route) (link : NewName) (others : Residue) (J : List ℕ)
    → IsReady volume device state (Link from path) (Name link) others → (link_stages.step_of volume.size (link_stages.begun link)).Makes device.words J → KeepsMeaning volume.size device.words J

abbrev pub LinkingQuietLaw : Type 0
LinkingQuietLaw = (volume : VolumeView) (device : DeviceView) (state : State) (from path : Route) (running : link_stages.RunningView) (others : Residue) (J : List ℕ)
    → WaitsToLink volume device state from path running others → commits_name running.stage ≡ false → (link_stages.step_of volume.size running).Makes device.words J → KeepsMeaning volume.size device.words J

abbrev pub LinkingCommitsLaw : Type 0
LinkingCommitsLaw = (volume : VolumeView) (device : DeviceView) (state : State) (from path : Route) (running : link_stages.RunningView) (others : Residue) (J : List ℕ)
    → WaitsToLink volume device state from path running others → commits_name running.stage ≡ true → (link_stages.step_of volume.size running).Makes device.words J
    → Commits volume.size device.words J state (Link from path) running.link.inode

-- ---- a name is taken away: the first step commits it

abbrev pub RemovingFirstCrashLaw : Type 0
RemovingFirstCrashLaw = (volume : VolumeView) (device : DeviceView) (state : State) (path : Route) (removal : Removal) (n : ℕ) (others : Residue) (J : List ℕ)
    → IsReady volume device state (removing.of_kind removal.loss.kind path) (Remove removal) others → (removals.step_of volume (removals.begun removal)).Makes device.words J
    → Commits volume.size device.words J state (removing.of_kind removal.loss.kind path) n

abbrev pub RemovingQuietLaw : Type 0
RemovingQuietLaw = (volume : VolumeView) (device : DeviceView) (state : State) (running : removals.RunningView) (others : Residue) (J : List ℕ)
    → WaitsToRemove volume device state running others → (removals.step_of volume running).Makes device.words J → KeepsMeaning volume.size device.words J

-- ---- a file grows

abbrev pub GrowthFirstCrashLaw : Type 0
GrowthFirstCrashLaw = (volume : VolumeView) (device : DeviceView) (state : State) (command : Command) (action : Action) (growth : Growth) (bytes pages : List ℕ) (others : Residue) (J : List ℕ)
    → IsReady volume device state command action others → IsGrowthOf growth bytes pages command action → (step_of_growth volume.size growth bytes pages Begun).Makes device.words J
    → (later : State) × TearsFile volume.size device.words J state later growth.inode growth.offset bytes

abbrev pub GrowthQuietLaw : Type 0
GrowthQuietLaw = (volume : VolumeView) (device : DeviceView) (state : State) (growth : Growth) (bytes pages : List ℕ) (others : Residue) (J : List ℕ)
    → WaitsToGrow volume device state growth bytes pages Filled others → (step_of_growth volume.size growth bytes pages Filled).Makes device.words J → KeepsMeaning volume.size device.words J

abbrev pub GrowthCommitsLaw : Type 0
GrowthCommitsLaw = (volume : VolumeView) (device : DeviceView) (state : State) (path : Route) (command : Command) (growth : Growth) (bytes pages : List ℕ) (n : ℕ) (others : Residue) (J : List ℕ)
    → WaitsToGrow volume device state growth bytes pages Owned others → IsGrowing growth bytes path command → id_at state.tree path ≡ Some growth.inode
    → (step_of_growth volume.size growth bytes pages Owned).Makes device.words J → Commits volume.size device.words J state command n

-- ---- a write inside the size

abbrev pub WritingCrashLaw : Type 0
WritingCrashLaw = (volume : VolumeView) (device : DeviceView) (state : State) (path : Route) (writing : Writing) (bytes : List ℕ) (n : ℕ) (others : Residue) (J : List ℕ)
    → IsReady volume device state (Write path writing.offset bytes) (WriteBytes writing) others → writes.begun_writing writing ≡ Inside writing
    → (writes.step_of volume.size bytes (Inside writing)).Makes device.words J
    → (stepped : IsStepped volume.size J state (Write path writing.offset bytes) n) × TearsFile volume.size device.words J state stepped.new writing.inode writing.offset bytes

-- ---- a file is cut: the first step commits it

abbrev pub CutFirstCrashLaw : Type 0
CutFirstCrashLaw = (volume : VolumeView) (device : DeviceView) (state : State) (path : Route) (resizing : Resizing) (n : ℕ) (others : Residue) (J : List ℕ)
    → IsReady volume device state (Truncate path resizing.new_size) (Resize resizing) others → resizes.begun_resizing resizing ≡ Cutting resizing CutBegun
    → (resizes.step_of volume (Cutting resizing CutBegun)).Makes device.words J → Commits volume.size device.words J state (Truncate path resizing.new_size) n

abbrev pub CutQuietLaw : Type 0
CutQuietLaw = (volume : VolumeView) (device : DeviceView) (state : State) (resizing : Resizing) (progress : CutProgress) (others : Residue) (J : List ℕ)
    → WaitsToCut volume device state resizing progress others → (resizes.step_of volume (Cutting resizing progress)).Makes device.words J → KeepsMeaning volume.size device.words J

-- ---- a name moves: the step commits it in which the new slot takes the number

abbrev pub MovingQuietLaw : Type 0
MovingQuietLaw = (volume : VolumeView) (device : DeviceView) (state : State) (from to : Route) (moving : Moving) (progress : MoveProgress) (J : List ℕ)
    → WaitsToMove volume device state from to moving progress → (progress ≡ Pointed → ⊥) → (moves.step_of volume (Moves moving progress)).Makes device.words J → KeepsMeaning volume.size device.words J

abbrev pub MovingCommitLaw : Type 0
MovingCommitLaw = (volume : VolumeView) (device : DeviceView) (state : State) (from to : Route) (moving : Moving) (n : ℕ) (J : List ℕ)
    → WaitsToMove volume device state from to moving Pointed → (moves.step_of volume (Moves moving Pointed)).Makes device.words J → Commits volume.size device.words J state (Rename from to) n

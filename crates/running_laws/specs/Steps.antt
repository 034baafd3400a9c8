-- A running call, whatever its command but a rename, makes a step to its fence, beside others: what that leaves.
use Rattle.std.specs.Prelude.{◌≡◌, ℕ, ◌<◌, true, false, Bool, List, [], length, Option, None, Some}
use Rattle.pm_trait.specs.DeviceView.{DeviceView}
use Rattle.pm_trait.specs.Unfolds.{KeepsWords}
use Rattle.layout.specs.Superblock.{IsSuperblockWord}
use Rattle.tree_model.specs.Tree.{bytes_of, is_file}
use Rattle.tree_model.specs.Step.{tree_after, RoomAfterWith, with_bytes, overwritten, resized}
use Rattle.tree_model.specs.Run.{State, is_changing}
use Rattle.tree_model.specs.declared.command.Command.{Command}
use Rattle.mixing_laws.specs.Mixed.{Range}
use Rattle.image_reading.specs.Residue.{Residue}
use Rattle.volume.specs.Volume.{VolumeView}
use Rattle.volume.specs.Costs.{events_of}
use Rattle.volume.specs.Stages.{keeping}
use Rattle.volume.specs.declared.next.Next.{Next}
use Rattle.volume.specs.declared.plan.Action.{Action}
use Rattle.data_ops.specs.declared.grow.Progress.{Progress}
use Rattle.data_ops.specs.declared.grow.Progress.TheVariants.{Begun, Filled, Owned}
use Rattle.data_ops.specs.declared.write.Stage.{Stage as WriteStage}
use Rattle.data_ops.specs.declared.write.Stage.TheVariants.{Nothing as NothingWritten, Inside, Growing as GrowsByWrite}
use Rattle.data_ops.specs.declared.truncate.Stage.{Stage as ResizeStage}
use Rattle.data_ops.specs.declared.truncate.Stage.TheVariants.{Nothing as SizeKept, Growing as GrowsBySize, Cutting}
use Rattle.data_ops.specs.declared.truncate.CutProgress.{CutProgress}
use Rattle.data_ops.specs.declared.truncate.CutProgress.TheVariants.{Begun as CutBegun, Lowered, Trimmed}
use Rattle.rename_ptr.specs.declared.rename.Progress.{Progress as MoveProgress}
use Rattle.rename_ptr.specs.declared.rename.Progress.TheVariants.{Begun as MoveBegun, Filled as MoveFilled, Opened, Pointed, Moved, Left, Cleared, Disowned}
use Rattle.rename_ptr.specs.declared.rename.Stage.{Stage as MoveStage}
use Rattle.rename_ptr.specs.declared.rename.Stage.TheVariants.{Nothing as NamesKept, Moving as MovesName}
use Rattle.unlink_ops.specs.declared.removal.Stage.{Stage as RemovalStage}
use Rattle.unlink_ops.specs.declared.removal.Stage.TheVariants.{Begun as NameThere, Unnamed, Cleared as SlotCleared, Disowned as PagesDisowned}
use Rattle.running_calls.specs.declared.running.Running.{Running}
use Rattle.running_calls.specs.declared.running.Running.TheVariants.{Makes, Links, Removes, Moves, Writes, Resizes}
use Rattle.running_calls.specs.Stages.{StandsNext, MayBegin, IsNext, EntersAt, begun, step_of}
use Rattle.waiting_laws.specs.Beside.{IsReady, MakesStep, Leaves}
use Rattle.waiting_laws.specs.Begins.{held_of_plan}
use Rattle.waiting_laws.specs.Crashes.{commits_entry, commits_name}
use Rattle.running_laws.specs.Waits.{left_next, held_by, bytes_of_command, Waits, WaitsNext}

-- ---- which steps commit

abbrev pub commits_growth : Progress → Bool
commits_growth Begun = false
commits_growth Filled = false
commits_growth Owned = true

abbrev pub commits_cut : CutProgress → Bool
commits_cut CutBegun = true
commits_cut Lowered = false
commits_cut Trimmed = false

abbrev pub commits_removal : RemovalStage → Bool
commits_removal NameThere = true
commits_removal Unnamed = false
commits_removal SlotCleared = false
commits_removal PagesDisowned = false

abbrev pub commits_write : WriteStage → Bool
commits_write NothingWritten = false
commits_write (Inside writing) = true
commits_write (GrowsByWrite writing progress) = commits_growth progress

abbrev pub commits_resize : ResizeStage → Bool
commits_resize SizeKept = false
commits_resize (GrowsBySize resizing progress) = commits_growth progress
commits_resize (Cutting resizing progress) = commits_cut progress

-- the new slot takes the number
abbrev pub commits_move : MoveProgress → Bool
commits_move MoveBegun = false
commits_move MoveFilled = false
commits_move Opened = false
commits_move Pointed = true
commits_move Moved = false
commits_move Left = false
commits_move Cleared = false
commits_move Disowned = false

abbrev pub commits_name_move : MoveStage → Bool
commits_name_move NamesKept = false
commits_name_move (MovesName moving progress) = commits_move progress

-- whether the next step of the call does: it stores the word by which the command is carried out
abbrev pub commits : Running → Bool
commits (Makes running) = commits_entry running.stage
commits (Links running) = commits_name running.stage
commits (Removes running) = commits_removal running.stage
commits (Moves running) = commits_name_move running
commits (Writes running) = commits_write running
commits (Resizes running) = commits_resize running

-- ---- whether it has committed

abbrev pub has_committed_removal : RemovalStage → Bool
has_committed_removal NameThere = false
has_committed_removal Unnamed = true
has_committed_removal SlotCleared = true
has_committed_removal PagesDisowned = true

abbrev pub has_committed_cut : CutProgress → Bool
has_committed_cut CutBegun = false
has_committed_cut Lowered = true
has_committed_cut Trimmed = true

abbrev pub has_committed_resize : ResizeStage → Bool
has_committed_resize SizeKept = false
has_committed_resize (GrowsBySize resizing progress) = false
has_committed_resize (Cutting resizing progress) = has_committed_cut progress

abbrev pub has_committed_move : MoveProgress → Bool
has_committed_move MoveBegun = false
has_committed_move MoveFilled = false
has_committed_move Opened = false
has_committed_move Pointed = false
has_committed_move Moved = true
has_committed_move Left = true
has_committed_move Cleared = true
has_committed_move Disowned = true

abbrev pub has_moved : MoveStage → Bool
has_moved NamesKept = false
has_moved (MovesName moving progress) = has_committed_move progress

-- (the commit of the others is their last step)
abbrev pub has_committed : Running → Bool
has_committed (Makes running) = false
has_committed (Links running) = false
has_committed (Removes running) = has_committed_removal running.stage
has_committed (Moves running) = has_moved running
has_committed (Writes running) = false
has_committed (Resizes running) = has_committed_resize running

-- ---- what it gives and writes

-- the inode of the node that it makes; where it makes none, 0, which no node has
abbrev pub given_inode : Running → ℕ
given_inode (Makes running) = running.entry.inode
given_inode (Links running) = 0
given_inode (Removes running) = 0
given_inode (Moves running) = 0
given_inode (Writes running) = 0
given_inode (Resizes running) = 0

abbrev pub range_of_write : List ℕ → WriteStage → Option Range
range_of_write bytes NothingWritten = None
range_of_write bytes (Inside writing) = Some (record { file = writing.inode; offset = writing.offset; bytes = bytes })
range_of_write bytes (GrowsByWrite writing progress) = Some (record { file = writing.inode; offset = writing.offset; bytes = bytes })

abbrev pub range_of_resize : ResizeStage → Option Range
range_of_resize SizeKept = None
range_of_resize (GrowsBySize resizing progress) = Some (record { file = resizing.inode; offset = resizing.old_size; bytes = [] })
range_of_resize (Cutting resizing progress) = None

-- the range that it writes, where it writes these bytes, or a growth without a byte
abbrev pub range_of : List ℕ → Running → Option Range
range_of bytes (Makes running) = None
range_of bytes (Links running) = None
range_of bytes (Removes running) = None
range_of bytes (Moves running) = None
range_of bytes (Writes running) = range_of_write bytes running
range_of bytes (Resizes running) = range_of_resize running

-- ---- what a step means

-- The later state is one that the accepted command leaves; a node that it makes gets this id.
pub record IsAfter (state later : State) (command : Command) (id : ℕ) : Type 0 where
  pub tree : later.tree ≡ tree_after id state.tree command
  pub room : RoomAfterWith None id state.tree state.room command later.room

-- The part of the range that lies below the size of its file is stored.
pub record HasStoredBelow (range : Range) (state later : State) : Type 0 where
  pub file : is_file state.tree range.file ≡ true
  pub tree : later.tree ≡ with_bytes state.tree range.file (resized (overwritten (bytes_of state.tree range.file) range.offset range.bytes) (length (bytes_of state.tree range.file)))
  pub room : later.room ≡ state.room

-- Behind a step that commits it is such a state, and else the same one;
abbrev pub Means : Bool → State → State → Command → ℕ → Type 0
Means true state later command id = IsAfter state later command id
Means false state later command id = later ≡ state

-- behind the first step of a growth, which doesn't commit, the range below the size is stored.
abbrev pub MeansUncommitted : Option Range → State → State → Type 0
MeansUncommitted None state later = later ≡ state
MeansUncommitted (Some range) state later = HasStoredBelow range state later

abbrev pub MeansFirst : Bool → Option Range → State → State → Command → ℕ → Type 0
MeansFirst true range state later command id = IsAfter state later command id
MeansFirst false range state later command id = MeansUncommitted range state later

-- ---- its first step

-- It begins where it is ready (a rename too, beside nothing).
abbrev pub BeginsLaw : Type 0
BeginsLaw = (volume : VolumeView) (device : DeviceView) (state : State) (command : Command) (action : Action) (others : Residue) → IsReady volume device state command action others
    → is_changing command ≡ true → MayBegin volume device (bytes_of_command command) action

-- Behind its first step the volume stands beside what it has left and the others, and it waits or has ended.
pub record BeganBeside (old new : VolumeView) (before after : DeviceView) (state : State) (command : Command) (action : Action) (running : Running) (next : Next Running) (others : Residue) : Type 0 where
  pub later : State
  pub means : MeansFirst (commits running) (range_of (bytes_of_command command) running) state later command (given_inode running)
  pub leaves : Leaves old new before after later (left_next new next) others (held_of_plan old action)
  pub waits : WaitsNext new after later command next others

-- a call with a step that may run beside others
abbrev pub runs_beside : Running → Bool
runs_beside (Makes running) = true
runs_beside (Links running) = true
runs_beside (Removes running) = true
runs_beside (Moves running) = false
runs_beside (Writes running) = true
runs_beside (Resizes running) = true

abbrev pub FirstStepLaw : Type 0
FirstStepLaw = (volume new : VolumeView) (before after : DeviceView) (state : State) (command : Command) (action : Action) (running : Running) (next : Next Running) (others : Residue)
    → IsReady volume before state command action others → 0 < events_of action → begun action ≡ Some running → runs_beside running ≡ true
    → MakesStep (step_of (keeping volume action) (bytes_of_command command) running) (EntersAt running) (keeping volume action) new before after
    → IsNext running next → StandsNext new after (bytes_of_command command) next
    → BeganBeside volume new before after state command action running next others

-- ---- each later step

-- Behind it the volume stands beside what it has left and the others, and it waits on or has ended.
pub record WentOnBeside (old new : VolumeView) (before after : DeviceView) (state : State) (command : Command) (running : Running) (next : Next Running) (others : Residue) : Type 0 where
  pub later : State
  pub means : Means (commits running) state later command (given_inode running)
  pub leaves : Leaves old new before after later (left_next new next) others (held_by old running)
  pub waits : WaitsNext new after later command next others

abbrev pub LaterStepLaw : Type 0
LaterStepLaw = (old new : VolumeView) (before after : DeviceView) (state : State) (command : Command) (running : Running) (next : Next Running) (others : Residue)
    → Waits old before state command running others
    → MakesStep (step_of old (bytes_of_command command) running) (EntersAt running) old new before after
    → IsNext running next → StandsNext new after (bytes_of_command command) next
    → WentOnBeside old new before after state command running next others

-- ---- the superblock

-- No step stores to it.
abbrev pub SuperblockLaw : Type 0
SuperblockLaw = (volume : VolumeView) (bytes words next : List ℕ) (running : Running) → (step_of volume bytes running).Makes words next → KeepsWords IsSuperblockWord words next

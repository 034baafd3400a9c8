-- A call that begins beside others that wait: what it will hold is held by none of them, also where its plan has no fence. P is the number of pages.
use Rattle.std.specs.Prelude.{◌≡◌, ℕ, ◌≤◌, true, List, [], length, None}
use Rattle.pm_trait.specs.DeviceView.{DeviceView}
use Rattle.tree_model.specs.PathText.{Route}
use Rattle.tree_model.specs.Capacity.{free_inodes, free_pages}
use Rattle.tree_model.specs.Step.{tree_after, RoomAfterWith}
use Rattle.tree_model.specs.Run.{State, is_changing}
use Rattle.tree_model.specs.declared.command.Command.{Command}
use Rattle.tree_model.specs.declared.command.Command.TheVariants.{Write, Truncate, Rename}
use Rattle.naming_laws.specs.Naming.{names_inode}
use Rattle.image_reading.specs.Counts.{IsIn}
use Rattle.image_reading.specs.Residue.{Residue, no_residue}
use Rattle.image_counts.specs.Laws.{ReadsBeside, supply_beside}
use Rattle.weave_laws.specs.Beside.{AreInVolume, AreApart}
use Rattle.weave_laws.specs.Joined.{joined}
use Rattle.volume.specs.Volume.{VolumeView}
use Rattle.volume.specs.Costs.{events_of}
use Rattle.volume.specs.declared.plan.Action.{Action}
use Rattle.volume.specs.declared.plan.Action.TheVariants.{Make, Name, Remove, Move, Write as WriteBytes, WriteNothing, Resize, KeepSize, KeepNames, Read as ReadBytes, Status, Names, Space}
use Rattle.data_ops.specs.ResizeStages as resizes
use Rattle.data_ops.specs.WriteStages as writes
use Rattle.rename_ptr.specs.Stages as renames
use Rattle.waiting_laws.specs.Beside.{Holding, Holds, IsReady, KeepsNodes}
use Rattle.waiting_laws.specs.Growing.{file_held_by, TearsFile}
use Rattle.waiting_laws.specs.Linking as linking
use Rattle.waiting_laws.specs.Making as making
use Rattle.waiting_laws.specs.Removing as removing

-- ---- what a call will hold

abbrev pub holds_nothing : Holding
holds_nothing = record { slots = []; pages = []; inodes = [] }

-- by its plan (a rename runs alone, and nothing is asked of what it holds)
abbrev pub held_of_plan : VolumeView → Action → Holding
held_of_plan volume (Make entry) = making.held_by entry
held_of_plan volume (Name link) = linking.held_by link
held_of_plan volume (Remove removal) = removing.held_by volume removal
held_of_plan volume (Move moving) = holds_nothing
held_of_plan volume (WriteBytes writing) = file_held_by volume writing.inode writing.new_pages
held_of_plan volume WriteNothing = holds_nothing
held_of_plan volume (Resize resizing) = file_held_by volume resizing.inode resizing.new_pages
held_of_plan volume KeepSize = holds_nothing
held_of_plan volume KeepNames = holds_nothing
held_of_plan volume (ReadBytes reading) = holds_nothing
held_of_plan volume (Status inode) = holds_nothing
held_of_plan volume (Names inode) = holds_nothing
held_of_plan volume Space = holds_nothing

-- Where the command names nothing that another call holds, they hold nothing together.
abbrev pub BeginsApartLaw : Type 0
BeginsApartLaw = (volume : VolumeView) (device : DeviceView) (state : State) (command : Command) (action : Action) (other rest : Residue) (others_held : Holding)
    → IsReady volume device state command action (joined other rest) → Holds volume device.words other others_held → ((i : ℕ) → names_inode state.tree command i ≡ true → ¬ IsIn i others_held.inodes)
    → AreInVolume volume.size (held_of_plan volume action).pages (held_of_plan volume action).inodes
    × AreApart (held_of_plan volume action).slots (held_of_plan volume action).pages (held_of_plan volume action).inodes others_held.slots others_held.pages others_held.inodes

-- ---- numbers

-- What a call has left fits into what is free beside the others, by the tree.
abbrev pub OwnEnoughLaw : Type 0
OwnEnoughLaw = (P : ℕ) (I : List ℕ) (state : State) (own others : Residue) → ReadsBeside P I (joined own others) state
    → (length own.inodes ≤ free_inodes (supply_beside P others) state.tree) × (length own.pages ≤ free_pages (supply_beside P others) state.tree state.room)

-- ---- bytes that are stored before a write is committed

-- They are of one file: other nodes stay.
abbrev pub TornKeepsLaw : Type 0
TornKeepsLaw = (P : ℕ) (I J : List ℕ) (old new : State) (i offset : ℕ) (bytes inodes : List ℕ) → TearsFile P I J old new i offset bytes → ¬ IsIn i inodes → KeepsNodes inodes old new

-- ---- plans without a fence

abbrev pub NothingWrittenLaw : Type 0
NothingWrittenLaw = (volume : VolumeView) (device : DeviceView) (state : State) (path : Route) (offset : ℕ) (others : Residue) → IsReady volume device state (Write path offset []) WriteNothing others
    → writes.MayBegin volume device [] WriteNothing

abbrev pub SizeKeptLaw : Type 0
SizeKeptLaw = (volume : VolumeView) (device : DeviceView) (state : State) (path : Route) (size : ℕ) (others : Residue) → IsReady volume device state (Truncate path size) KeepSize others
    → resizes.MayBegin volume device KeepSize

abbrev pub NamesKeptLaw : Type 0
NamesKeptLaw = (volume : VolumeView) (device : DeviceView) (state : State) (from to : Route) → IsReady volume device state (Rename from to) KeepNames no_residue → renames.MayBegin volume device KeepNames

-- A change whose plan has no event leaves tree and room.
abbrev pub IdleLaw : Type 0
IdleLaw = (volume : VolumeView) (device : DeviceView) (state : State) (command : Command) (action : Action) (n : ℕ) (others : Residue) → IsReady volume device state command action others
    → is_changing command ≡ true → events_of action ≡ 0 → (tree_after n state.tree command ≡ state.tree) × RoomAfterWith None n state.tree state.room command state.room

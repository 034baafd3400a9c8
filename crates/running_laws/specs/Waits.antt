-- A running call that waits beside others, whatever its command, but for a rename, which runs alone. P is the number of pages, I the words.
use Rattle.std.specs.Prelude.{◌≡◌, ◌⊎◌, ℕ, ◌<◌, true, List, [], length, None, Some}
use Rattle.pm_trait.specs.DeviceView.{DeviceView}
use Rattle.pm_trait.specs.Unfolds.{events_in, fences_in}
use Rattle.tree_model.specs.PathText.{Route}
use Rattle.tree_model.specs.Step.{making as made_by}
use Rattle.tree_model.specs.Tree.{id_at, node_at}
use Rattle.tree_model.specs.Run.{State, is_changing}
use Rattle.tree_model.specs.declared.command.Command.{Command}
use Rattle.tree_model.specs.declared.command.Command.TheVariants.{Create, Mkdir, Link, Unlink, Rmdir, Rename, Write, Truncate, Read, Stat as Tell, List as Show, Df}
use Rattle.naming_laws.specs.Naming.{names_inode}
use Rattle.image_reading.specs.Counts.{IsIn}
use Rattle.image_reading.specs.Residue.{Residue, no_residue}
use Rattle.weave_laws.specs.Waiting.{HasNoPageOf}
use Rattle.volume.specs.Volume.{VolumeView}
use Rattle.volume.specs.Prepared.{IsBoundedResizing}
use Rattle.volume.specs.Stages.{HasKept}
use Rattle.volume.specs.declared.next.Next.{Next}
use Rattle.volume.specs.declared.next.Next.TheVariants.{More, Ended}
use Rattle.volume.specs.declared.plan.Action.{Action}
use Rattle.data_ops.specs.declared.write.Stage.{Stage as WriteStage}
use Rattle.data_ops.specs.declared.write.Stage.TheVariants.{Nothing as NothingWritten, Inside, Growing as GrowsByWrite}
use Rattle.data_ops.specs.declared.truncate.Stage.{Stage as ResizeStage}
use Rattle.data_ops.specs.declared.truncate.Stage.TheVariants.{Nothing as SizeKept, Growing as GrowsBySize, Cutting}
use Rattle.data_ops.specs.Cutting.{growth_to}
use Rattle.data_ops.specs.Writing.{growth_of}
use Rattle.data_ops.specs.WriteStages.{IsWriteAt}
use Rattle.rename_ptr.specs.declared.rename.Stage.{Stage as MoveStage}
use Rattle.rename_ptr.specs.declared.rename.Stage.TheVariants.{Nothing as NamesKept, Moving as MovesName}
use Rattle.running_calls.specs.declared.running.Running.{Running}
use Rattle.running_calls.specs.declared.running.Running.TheVariants.{Makes, Links, Removes, Moves, Writes, Resizes}
use Rattle.running_calls.specs.Stages.{StandsStage, IsNext, begun, left_of}
use Rattle.waiting_laws.specs.Beside.{Holding, Holds, NamesNothing, StandsWith, PassesBy, IsReady}
use Rattle.waiting_laws.specs.Begins.{holds_nothing, held_of_plan}
use Rattle.waiting_laws.specs.Cutting as cutting
use Rattle.waiting_laws.specs.Growing.{file_held_by, pages_left_by, WaitsToGrow}
use Rattle.waiting_laws.specs.Linking as linking
use Rattle.waiting_laws.specs.Making as making
use Rattle.waiting_laws.specs.Moving as moving
use Rattle.waiting_laws.specs.Removing as removing

-- ---- what it has left

abbrev pub left_by_write : WriteStage → Residue
left_by_write NothingWritten = no_residue
left_by_write (Inside writing) = no_residue
left_by_write (GrowsByWrite writing progress) = pages_left_by writing.inode writing.new_pages

abbrev pub left_by_resize : VolumeView → ResizeStage → Residue
left_by_resize volume SizeKept = no_residue
left_by_resize volume (GrowsBySize resizing progress) = pages_left_by resizing.inode resizing.new_pages
left_by_resize volume (Cutting resizing progress) = cutting.left_by volume resizing

abbrev pub left_by_move : VolumeView → MoveStage → Residue
left_by_move volume NamesKept = no_residue
left_by_move volume (MovesName moved progress) = moving.left_by volume moved progress

-- of a call that has made a step
abbrev pub left_by : VolumeView → Running → Residue
left_by volume (Makes running) = making.left_by running.entry
left_by volume (Links running) = linking.left_by running.link
left_by volume (Removes running) = removing.left_by volume running
left_by volume (Moves running) = left_by_move volume running
left_by volume (Writes running) = left_by_write running
left_by volume (Resizes running) = left_by_resize volume running

-- and where it has ended, nothing
abbrev pub left_next : VolumeView → Next Running → Residue
left_next volume (More running) = left_by volume running
left_next volume (Ended reply) = no_residue

-- ---- what it holds

abbrev pub held_by_write : VolumeView → WriteStage → Holding
held_by_write volume NothingWritten = holds_nothing
held_by_write volume (Inside writing) = file_held_by volume writing.inode []
held_by_write volume (GrowsByWrite writing progress) = file_held_by volume writing.inode writing.new_pages

abbrev pub held_by_resize : VolumeView → ResizeStage → Holding
held_by_resize volume SizeKept = holds_nothing
held_by_resize volume (GrowsBySize resizing progress) = file_held_by volume resizing.inode resizing.new_pages
held_by_resize volume (Cutting resizing progress) = cutting.held_by volume resizing

-- (nothing is asked of what a rename holds)
abbrev pub held_by : VolumeView → Running → Holding
held_by volume (Makes running) = making.held_by running.entry
held_by volume (Links running) = linking.held_by running.link
held_by volume (Removes running) = removing.held_by volume running.removal
held_by volume (Moves running) = holds_nothing
held_by volume (Writes running) = held_by_write volume running
held_by volume (Resizes running) = held_by_resize volume running

-- ---- where it waits

-- the bytes that a command hands to each step of its call
abbrev pub bytes_of_command : Command → List ℕ
bytes_of_command (Create path) = []
bytes_of_command (Mkdir path) = []
bytes_of_command (Link from to) = []
bytes_of_command (Unlink path) = []
bytes_of_command (Rmdir path) = []
bytes_of_command (Rename from to) = []
bytes_of_command (Write path offset bytes) = bytes
bytes_of_command (Truncate path size) = []
bytes_of_command (Read path offset count) = []
bytes_of_command (Tell path) = []
bytes_of_command (Show path) = []
bytes_of_command Df = []

-- (a call inside the size has one step, and one that does nothing has none, so neither waits)
abbrev pub WaitsToWrite : VolumeView → DeviceView → State → Command → WriteStage → Residue → Type 0
WaitsToWrite volume device state command NothingWritten others = ⊥
WaitsToWrite volume device state command (Inside writing) others = ⊥
WaitsToWrite volume device state command (GrowsByWrite writing progress) others =
    (path : Route) × (bytes : List ℕ) × (command ≡ Write path writing.offset bytes) × (id_at state.tree path ≡ Some writing.inode) × IsWriteAt volume writing bytes × (0 < length bytes)
    × WaitsToGrow volume device state (growth_of writing) bytes writing.new_pages progress others

abbrev pub WaitsToResize : VolumeView → DeviceView → State → Command → ResizeStage → Residue → Type 0
WaitsToResize volume device state command SizeKept others = ⊥
WaitsToResize volume device state command (GrowsBySize resizing progress) others =
    (path : Route) × (command ≡ Truncate path resizing.new_size) × (id_at state.tree path ≡ Some resizing.inode) × IsBoundedResizing resizing
    × WaitsToGrow volume device state (growth_to resizing) [] resizing.new_pages progress others
WaitsToResize volume device state command (Cutting resizing progress) others =
    (path : Route) × (command ≡ Truncate path resizing.new_size) × cutting.WaitsToCut volume device state resizing progress others

-- A call of this command waits beside others, which have left this. The state is that of the words.
abbrev pub Waits : VolumeView → DeviceView → State → Command → Running → Residue → Type 0
Waits volume device state command (Makes running) others = (path : Route) × (command ≡ made_by running.entry.kind path) × making.WaitsToMake volume device state path running others
Waits volume device state command (Links running) others = (from path : Route) × (command ≡ Link from path) × linking.WaitsToLink volume device state from path running others
Waits volume device state command (Removes running) others =
    (path : Route) × (command ≡ removing.of_kind running.removal.loss.kind path) × removing.WaitsToRemove volume device state running others
Waits volume device state command (Moves running) others = ⊥
Waits volume device state command (Writes running) others = WaitsToWrite volume device state command running others
Waits volume device state command (Resizes running) others = WaitsToResize volume device state command running others

abbrev pub WaitsNext : VolumeView → DeviceView → State → Command → Next Running → Residue → Type 0
WaitsNext volume device state command (More running) others = Waits volume device state command running others
WaitsNext volume device state command (Ended reply) others = Unit {0}

-- ---- while it waits

-- The device and the volume stand beside what it has left and the others.
abbrev pub StandsBesideLaw : Type 0
StandsBesideLaw = (volume : VolumeView) (device : DeviceView) (state : State) (command : Command) (running : Running) (others : Residue) → Waits volume device state command running others
    → StandsWith volume device state (left_by volume running) others

-- What it has left lies in what it holds,
abbrev pub HoldsLaw : Type 0
HoldsLaw = (volume : VolumeView) (device : DeviceView) (state : State) (command : Command) (running : Running) (others : Residue) → Waits volume device state command running others
    → Holds volume device.words (left_by volume running) (held_by volume running)

-- and it may make its next step, where its events are kept.
abbrev pub StandsLaw : Type 0
StandsLaw = (volume : VolumeView) (device : DeviceView) (state : State) (command : Command) (running : Running) (others : Residue) → Waits volume device state command running others
    → HasKept volume device (events_in (left_of volume (bytes_of_command command) running)) → StandsStage volume device (bytes_of_command command) running

-- No page that the others have left is that of an inode which it holds, and none of them names anything.
pub record LeavesAlone (P : ℕ) (I : List ℕ) (held : Holding) (others : Residue) : Type 0 where
  pub pages : (i : ℕ) → IsIn i held.inodes → HasNoPageOf P I others i
  pub bare : NamesNothing P I others

-- It waits still when another call has made a step: with the same left, the same held, and the same steps to come.
pub record WaitsStill (old new : VolumeView) (after : DeviceView) (later : State) (command : Command) (running : Running) (now : Residue) : Type 0 where
  pub waits : Waits new after later command running now
  pub left : left_by new running ≡ left_by old running
  pub held : held_by new running ≡ held_by old running
  pub events : events_in (left_of new (bytes_of_command command) running) ≡ events_in (left_of old (bytes_of_command command) running)
  pub fences : fences_in (left_of new (bytes_of_command command) running) ≡ fences_in (left_of old (bytes_of_command command) running)

abbrev pub StillWaitsLaw : Type 0
StillWaitsLaw = (old new : VolumeView) (before after : DeviceView) (state later : State) (command : Command) (running : Running) (others now : Residue)
    → Waits old before state command running others → PassesBy old new before after state later (held_by old running)
    → StandsWith new after later (left_by old running) now → LeavesAlone new.size after.words (held_by old running) now
    → WaitsStill old new after later command running now

-- ---- what it names and holds

-- Every inode that it will hold its command names, but the one that no node has.
abbrev pub NamesHeldLaw : Type 0
NamesHeldLaw = (volume : VolumeView) (device : DeviceView) (state : State) (command : Command) (action : Action) (others : Residue) → IsReady volume device state command action others
    → is_changing command ≡ true → (i : ℕ) → IsIn i (held_of_plan volume action).inodes → (names_inode state.tree command i ≡ true) ⊎ (node_at state.tree i ≡ None)

-- It holds the same inodes from its plan to its end.
abbrev pub BegunHoldsLaw : Type 0
BegunHoldsLaw = (volume : VolumeView) (action : Action) (running : Running) → begun action ≡ Some running → (held_by volume running).inodes ≡ (held_of_plan volume action).inodes

abbrev pub NextHoldsLaw : Type 0
NextHoldsLaw = (old new : VolumeView) (running next : Running) → IsNext running (More next) → (held_by new next).inodes ≡ (held_by old running).inodes

-- When a volume stands for a tree and a room beside calls that run, each cut at a fence: the residue has what they have left in the words.
use Rattle.std.specs.Prelude.{◌≡◌, ◌↔◌, ℕ, ◌+◌, ◌-◌, ◌*◌, ◌<◌, ◌≤◌, true, IsTrue, List, length, Contains, Some, is_some, slice_get}
use Rattle.pm_trait.specs.DeviceView.{DeviceView, IsSettledView}
use Rattle.layout.specs.Superblock.{has_mark}
use Rattle.layout.specs.Geometry.{inodes_of, data_pages_of}
use Rattle.layout.specs.Fields.{inode_kind, page_offset}
use Rattle.tree_model.specs.Tree.{Tree, node_at}
use Rattle.tree_model.specs.Run.{State}
use Rattle.tree_model.specs.declared.command.Command.{Command}
use Rattle.naming_laws.specs.Naming.{names_inode, names_all}
use Rattle.image_reading.specs.Counts.{IsIn, IsDistinct}
use Rattle.image_reading.specs.Reading.{HasBytes, Reached, ReadsAs}
use Rattle.image_reading.specs.Residue.{Residue, no_residue, IsTidyBeside}
use Rattle.image_reading.specs.Soundness.{Sound}
use Rattle.image_counts.specs.Entries.{IsEntryOf, IsPageIn, IsUnusedPage}
use Rattle.image_counts.specs.Laws.{IsApart}
use Rattle.allocators.specs.Numbers.{IsFree}
use Rattle.volatile_index.specs.Index.{NodeView, inodes_of_index, entries_of, pages_of}
use Rattle.volume.specs.Costs.{mark_events}
use Rattle.volume.specs.Volume.{VolumeView}

-- The index holds the entries of each directory, and the pages of each inode, a file's in the order of their offsets. Of a page that a
-- running call has left nothing is said: its inode's list may have it or not.
pub record KnowsNodesBeside (P : ℕ) (index : List NodeView) (I : List ℕ) (residue : Residue) : Type 0 where
  pub each_inode : inodes_of_index index ≡ inodes_of P
  pub entries : (d slot : ℕ) (bytes : List ℕ) → 1 ≤ d → d ≤ inodes_of P → Contains (entries_of index d) (record { name = bytes; slot = slot }) ↔ IsEntryOf P I d bytes slot
  pub pages : (i page : ℕ) → 1 ≤ i → i ≤ inodes_of P → ¬ IsIn page residue.pages → Contains (pages_of index i) page ↔ IsPageIn P I i page
  pub once : (i : ℕ) → 1 ≤ i → i ≤ inodes_of P → IsDistinct (pages_of index i)
  pub offsets : (i k page : ℕ) → Reached P I i → HasBytes I i → ¬ IsIn page residue.pages → slice_get (pages_of index i) k ≡ Some page → page_offset P I page ≡ k

-- It knows what the words say: the entries and pages, and which inodes and data pages are free.
pub record KnowsBeside (volume : VolumeView) (I : List ℕ) (residue : Residue) : Type 0 where
  pub whole : length I ≡ 512 * volume.size
  pub nodes : KnowsNodesBeside volume.size volume.index I residue
  pub each_inode : length volume.inodes ≡ inodes_of volume.size
  pub inodes : (i : ℕ) → 1 ≤ i → i ≤ inodes_of volume.size → IsFree volume.inodes (i - 1) ↔ (inode_kind I i ≡ 0)
  pub each_page : length volume.data_pages ≡ data_pages_of volume.size
  pub data_pages : (j : ℕ) → j < data_pages_of volume.size → IsFree volume.data_pages j ↔ IsUnusedPage volume.size I j

-- The volume stands for this tree and this room beside the residue: the device is settled, its words are sound, tidy beside the residue,
-- and read as the tree and the room, and the volume knows what they say, the mark among it. There is room for the events of closing, and
-- for those that running calls have left.
pub record StandsBeside (volume : VolumeView) (device : DeviceView) (state : State) (residue : Residue) : Type 0 where
  pub settled : IsSettledView device
  pub sound : Sound volume.size device.words
  pub beside : IsTidyBeside volume.size device.words residue
  pub reads : ReadsAs volume.size device.words state
  pub knows : KnowsBeside volume device.words residue
  pub mark : volume.marked ≡ has_mark device.words
  pub room : mark_events + volume.kept ≤ device.spare

-- it stands for some tree and room, beside some residue
abbrev pub IsStandingBeside : VolumeView → DeviceView → Type 0
IsStandingBeside volume device = (state : State) × (residue : Residue) × StandsBeside volume device state residue

-- No running call has left anything of the inode, and the list of its pages has none that a call has left. A call keeps the pages that it
-- has given up in the list of its own inode, and touches no other.
pub record IsUntouched (volume : VolumeView) (I : List ℕ) (residue : Residue) (i : ℕ) : Type 0 where
  pub apart : IsApart volume.size I residue i
  pub listed : (page : ℕ) → IsIn page residue.pages → ¬ Contains (pages_of volume.index i) page

-- it stands for some tree, beside a residue that has nothing of the inode
abbrev pub IsTouchedByNone : VolumeView → DeviceView → ℕ → Type 0
IsTouchedByNone volume device inode = (state : State) × (residue : Residue) × StandsBeside volume device state residue × IsUntouched volume device.words residue inode

-- it stands for a tree with a node of this inode, which no running call touches
abbrev pub HasNodeBeside : VolumeView → DeviceView → ℕ → Type 0
HasNodeBeside volume device inode = (state : State) × (residue : Residue) × StandsBeside volume device state residue × IsTrue (is_some (node_at state.tree inode)) × IsUntouched volume device.words residue inode

-- it stands for the state, and what runs has left nothing
abbrev pub StandsAlone : VolumeView → DeviceView → State → Type 0
StandsAlone volume device state = StandsBeside volume device state no_residue

abbrev pub IsStandingAlone : VolumeView → DeviceView → Type 0
IsStandingAlone volume device = (state : State) × StandsAlone volume device state

abbrev pub HasNodeAlone : VolumeView → DeviceView → ℕ → Type 0
HasNodeAlone volume device inode = (state : State) × StandsAlone volume device state × IsTrue (is_some (node_at state.tree inode))

-- No running call has left anything of a node that the command names. A rename names all, and is prepared where nothing is left. That no call
-- names what this one names is more: one that has left nothing of a node may still change it.
pub record NamesUntouched (volume : VolumeView) (I : List ℕ) (residue : Residue) (T : Tree) (command : Command) : Type 0 where
  pub each : (i : ℕ) → names_inode T command i ≡ true → IsUntouched volume I residue i
  pub alone : names_all command ≡ true → residue ≡ no_residue

-- the volume stands for the state beside the residue, which has nothing of what the command names
pub record MayPrepare (volume : VolumeView) (device : DeviceView) (state : State) (residue : Residue) (command : Command) : Type 0 where
  pub stands : StandsBeside volume device state residue
  pub untouched : NamesUntouched volume device.words residue state.tree command

-- the command may be prepared for some state, beside some residue
abbrev pub IsAsked : VolumeView → DeviceView → Command → Type 0
IsAsked volume device command = (state : State) × (residue : Residue) × MayPrepare volume device state residue command

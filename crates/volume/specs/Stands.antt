-- When a volume stands for a tree and a room.
use Rattle.std.specs.Prelude.{◌≡◌, ◌↔◌, ℕ, ◌-◌, ◌*◌, ◌<◌, ◌≤◌, IsTrue, List, length, Contains, Some, is_some, slice_get}
use Rattle.pm_trait.specs.DeviceView.{DeviceView, IsSettledView}
use Rattle.layout.specs.Superblock.{has_mark}
use Rattle.layout.specs.Geometry.{inodes_of, data_pages_of}
use Rattle.layout.specs.Fields.{inode_kind, page_offset}
use Rattle.tree_model.specs.Tree.{node_at}
use Rattle.tree_model.specs.Run.{State}
use Rattle.image_reading.specs.Counts.{IsDistinct}
use Rattle.image_reading.specs.Reading.{HasBytes, Reached, ReadsAs}
use Rattle.image_reading.specs.Tidy.{Tidy}
use Rattle.image_counts.specs.Entries.{IsEntryOf, IsPageIn, IsUnusedPage}
use Rattle.allocators.specs.Numbers.{IsFree}
use Rattle.volatile_index.specs.Index.{NodeView, inodes_of_index, entries_of, pages_of}
use Rattle.volume.specs.Costs.{mark_events}
use Rattle.volume.specs.Volume.{VolumeView}

-- The index holds the entries of each directory, and the pages of each inode, a file's in the order of their offsets.
pub record KnowsNodes (P : ℕ) (index : List NodeView) (I : List ℕ) : Type 0 where
  pub each_inode : inodes_of_index index ≡ inodes_of P
  pub entries : (d slot : ℕ) (bytes : List ℕ) → 1 ≤ d → d ≤ inodes_of P → Contains (entries_of index d) (record { name = bytes; slot = slot }) ↔ IsEntryOf P I d bytes slot
  pub pages : (i page : ℕ) → 1 ≤ i → i ≤ inodes_of P → Contains (pages_of index i) page ↔ IsPageIn P I i page
  pub once : (i : ℕ) → 1 ≤ i → i ≤ inodes_of P → IsDistinct (pages_of index i)
  pub offsets : (i k page : ℕ) → Reached P I i → HasBytes I i → slice_get (pages_of index i) k ≡ Some page → page_offset P I page ≡ k

-- It knows what the words say: the entries and pages, and which inodes and data pages are free.
pub record Knows (volume : VolumeView) (I : List ℕ) : Type 0 where
  pub whole : length I ≡ 512 * volume.size
  pub nodes : KnowsNodes volume.size volume.index I
  pub each_inode : length volume.inodes ≡ inodes_of volume.size
  pub inodes : (i : ℕ) → 1 ≤ i → i ≤ inodes_of volume.size → IsFree volume.inodes (i - 1) ↔ (inode_kind I i ≡ 0)
  pub each_page : length volume.data_pages ≡ data_pages_of volume.size
  pub data_pages : (j : ℕ) → j < data_pages_of volume.size → IsFree volume.data_pages j ↔ IsUnusedPage volume.size I j

-- The volume stands for this tree and this room: the device is settled, its words are tidy and read as the tree and the
-- room, and the volume knows what they say, the mark among it. There is room for the events of closing,
-- and no call runs.
pub record StandsFor (volume : VolumeView) (device : DeviceView) (state : State) : Type 0 where
  pub settled : IsSettledView device
  pub tidy : Tidy volume.size device.words
  pub reads : ReadsAs volume.size device.words state
  pub knows : Knows volume device.words
  pub mark : volume.marked ≡ has_mark device.words
  pub room : mark_events ≤ device.spare
  pub no_call : volume.kept ≡ 0

-- it stands for some tree and room
abbrev pub IsStanding : VolumeView → DeviceView → Type 0
IsStanding volume device = (state : State) × StandsFor volume device state

-- and for one with a node of this inode
abbrev pub HasNode : VolumeView → DeviceView → ℕ → Type 0
HasNode volume device inode = (state : State) × StandsFor volume device state × IsTrue (is_some (node_at state.tree inode))

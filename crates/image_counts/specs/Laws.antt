-- What is counted in the words of an image, and in the tree that it reads as.
use Rattle.std.specs.Prelude.{◌≡◌, ◌≢◌, ◌↔◌, ◌⊎◌, ℕ, ◌*◌, ◌<◌, ◌≤◌, true, List, [], ◌∷◌, ◌++◌, length, Some, None}
use Rattle.layout.specs.Geometry.{inodes_of, data_pages_of, slot_word_of}
use Rattle.layout.specs.Fields.{word, inode_kind, inode_links, inode_size, page_owner, slot_inode}
use Rattle.tree_model.specs.PathText.{Route}
use Rattle.tree_model.specs.Tree.{Tree, File, id_at, node_at, is_directory, is_file, name_count, link_count, pages_in}
use Rattle.tree_model.specs.Capacity.{Supply, inodes_in_use, pages_in_use, free_inodes, free_pages, untaken}
use Rattle.tree_model.specs.Step.{least_free_id}
use Rattle.tree_model.specs.Run.{State, IsVolumeState}
use Rattle.image_reading.specs.Counts.{IsIn, Count}
use Rattle.image_reading.specs.Reading.{IsFile, IsDirectory, HasBytes, slot_owner, Reached, IsReachedSlot, IsLinkCount, pages_of_size, ReadsAs}
use Rattle.image_reading.specs.Repairs.{IsKept}
use Rattle.image_reading.specs.Residue.{Residue, IsTidyBeside}
use Rattle.image_reading.specs.Soundness.{IsCoherent}
use Rattle.image_reading.specs.Tidy.{IsTidied}
use Rattle.image_counts.specs.Entries.{IsEntryOf, IsSlotOf, IsSlotIn, IsPageIn, IsOwnedPage, IsFreePage, IsUnusedPage, IsUnusedDataPage, IsFreeInode}

-- ---- names

-- A path below that of a directory names what a slot of the directory says.
abbrev pub HasEntries : ℕ → List ℕ → Tree → Type 0
HasEntries P I T = (p : Route) (d i : ℕ) (name : List ℕ) → id_at T p ≡ Some d
    → (id_at T (p ++ name ∷ []) ≡ Some i) ↔ ((s : ℕ) × IsEntryOf P I d name s × (slot_inode P I s ≡ i))

abbrev pub EntryLaw : Type 0
EntryLaw = (P : ℕ) (I : List ℕ) (state : State) → IsCoherent P I → ReadsAs P I state → HasEntries P I state.tree

-- A directory has as many names as reached slots.
abbrev pub NameCountLaw : Type 0
NameCountLaw = (P : ℕ) (I : List ℕ) (state : State) → IsCoherent P I → ReadsAs P I state → (d : ℕ) → Count (IsSlotOf P I d) (name_count state.tree d)

-- There is no such path where the directory has no such slot, and the directory is empty where it has none.
pub record HasAbsences (P : ℕ) (I : List ℕ) (T : Tree) : Type 0 where
  pub absent : (p : Route) (d : ℕ) (name : List ℕ) → id_at T p ≡ Some d → (id_at T (p ++ name ∷ []) ≡ None) ↔ ((s : ℕ) → ¬ IsEntryOf P I d name s)
  pub empty : (d : ℕ) → (name_count T d ≡ 0) ↔ ((s : ℕ) → ¬ IsSlotOf P I d s)

abbrev pub AbsenceLaw : Type 0
AbsenceLaw = (P : ℕ) (I : List ℕ) (state : State) → IsCoherent P I → ReadsAs P I state → HasAbsences P I state.tree

-- ---- nodes

-- A node is of the kind and the size that its inode's words say.
pub record HasSizes (P : ℕ) (I : List ℕ) (T : Tree) : Type 0 where
  pub sizes : (i : ℕ) (bytes : List ℕ) → node_at T i ≡ Some (File bytes) → length bytes ≡ inode_size I i
  pub directories : (i : ℕ) → (is_directory T i ≡ true) ↔ (Reached P I i × IsDirectory I i)
  pub files : (i : ℕ) → (is_file T i ≡ true) ↔ (Reached P I i × IsFile I i)

abbrev pub SizeLaw : Type 0
SizeLaw = (P : ℕ) (I : List ℕ) (state : State) → IsCoherent P I → ReadsAs P I state → HasSizes P I state.tree

-- The inodes in use are those that are reached, and each is in the inode table.
pub record HasInodes (P : ℕ) (I : List ℕ) (T : Tree) : Type 0 where
  pub count : Count (Reached P I) (inodes_in_use T)
  pub least : (i : ℕ) → Reached P I i → 1 ≤ i
  pub most : (i : ℕ) → Reached P I i → i ≤ inodes_of P

abbrev pub InodeCountLaw : Type 0
InodeCountLaw = (P : ℕ) (I : List ℕ) (state : State) → IsCoherent P I → ReadsAs P I state → HasInodes P I state.tree

-- In a tidy image an inode is free exactly where its kind is 0.
pub record HasUsedInodes (P : ℕ) (I : List ℕ) (T : Tree) : Type 0 where
  pub used : (i : ℕ) → 1 ≤ i → i ≤ inodes_of P → Reached P I i ↔ (inode_kind I i ≢ 0)
  pub free : (n : ℕ) → Count (IsFreeInode P I) n → free_inodes (untaken P) T ≡ n
  -- the least free id is the least free inode's, where there is one beside the root
  pub least : (i : ℕ) → 2 ≤ i → IsFreeInode P I i → ((j : ℕ) → 2 ≤ j → j < i → inode_kind I j ≢ 0) → least_free_id T ≡ i

abbrev pub FreeInodeLaw : Type 0
FreeInodeLaw = (P : ℕ) (I : List ℕ) (state : State) → IsTidied P I → ReadsAs P I state → HasUsedInodes P I state.tree

-- ---- links

-- An inode that is reached has the links that are counted in the image, and one number of them.
pub record HasLinkCounts (P : ℕ) (I : List ℕ) (T : Tree) : Type 0 where
  pub counted : (i : ℕ) → Reached P I i → IsLinkCount P I i (link_count T i)
  pub only : (i n : ℕ) → Reached P I i → IsLinkCount P I i n → link_count T i ≡ n

abbrev pub LinkLaw : Type 0
LinkLaw = (P : ℕ) (I : List ℕ) (state : State) → IsCoherent P I → ReadsAs P I state → HasLinkCounts P I state.tree

-- In a tidy image it has as many as its link word says.
abbrev pub LinkWordLaw : Type 0
LinkWordLaw = (P : ℕ) (I : List ℕ) (state : State) → IsTidied P I → ReadsAs P I state → (i : ℕ) → Reached P I i → link_count state.tree i ≡ inode_links I i

-- ---- pages

-- In a tidy image a directory's room is the number of its pages, and a slot of them is live exactly where it has an
-- inode number.
pub record HasRoomWords (P : ℕ) (I : List ℕ) (state : State) (d : ℕ) : Type 0 where
  pub pages : Count (IsPageIn P I d) (pages_in state.room d)
  pub live : (s : ℕ) → IsSlotIn P I d s → IsReachedSlot P I s ↔ (slot_inode P I s ≢ 0)
  pub zeros : (s f : ℕ) → IsSlotIn P I d s → slot_inode P I s ≡ 0 → f < 16 → word I (slot_word_of P s f) ≡ 0
  -- the directory is full
  pub full : (name_count state.tree d ≡ 32 * pages_in state.room d) ↔ ((s : ℕ) → IsSlotIn P I d s → slot_inode P I s ≢ 0)

abbrev pub RoomLaw : Type 0
RoomLaw = (P : ℕ) (I : List ℕ) (state : State) → IsTidied P I → ReadsAs P I state → (d : ℕ) → Reached P I d → IsDirectory I d → HasRoomWords P I state d

-- A file's pages are one for each page of its size.
abbrev pub FilePagesLaw : Type 0
FilePagesLaw = (P : ℕ) (I : List ℕ) (state : State) → IsTidied P I → ReadsAs P I state → (i : ℕ) → Reached P I i → HasBytes I i
    → Count (IsPageIn P I i) (pages_of_size (inode_size I i))

-- The pages in use are those that recovery would keep.
abbrev pub KeptPageLaw : Type 0
KeptPageLaw = (P : ℕ) (I : List ℕ) (state : State) → IsCoherent P I → ReadsAs P I state → Count (IsKept P I) (pages_in_use state.tree state.room)

-- In a tidy image they are the pages that have an owner.
pub record HasUsedPages (P : ℕ) (I : List ℕ) (state : State) : Type 0 where
  pub owned : Count (IsOwnedPage P I) (pages_in_use state.tree state.room)
  pub kept : (j : ℕ) → j < data_pages_of P → IsKept P I j ↔ (page_owner P I j ≢ 0)
  pub free : (n : ℕ) → Count (IsFreePage P I) n → free_pages (untaken P) state.tree state.room ≡ n

abbrev pub PageCountLaw : Type 0
PageCountLaw = (P : ℕ) (I : List ℕ) (state : State) → IsTidied P I → ReadsAs P I state → HasUsedPages P I state

-- ---- beside calls that run, each cut at a fence: the residue has what they have left

-- Nothing of inode i is in the residue: no slot of its pages, no page of it, and not its links.
pub record IsApart (P : ℕ) (I : List ℕ) (residue : Residue) (i : ℕ) : Type 0 where
  pub slots : (s : ℕ) → IsIn s residue.slots → slot_owner P I s ≢ i
  pub pages : (j : ℕ) → IsIn j residue.pages → page_owner P I j ≢ i
  pub links : ¬ IsIn i residue.counts

-- the image fits together, is tidy beside the residue, and reads as the state
pub record ReadsBeside (P : ℕ) (I : List ℕ) (residue : Residue) (state : State) : Type 0 where
  pub coherent : IsCoherent P I
  pub beside : IsTidyBeside P I residue
  pub reads : ReadsAs P I state

-- what the residue has isn't free for others
abbrev pub supply_beside : ℕ → Residue → Supply
supply_beside P residue = record { pages = P; taken_inodes = length residue.inodes; taken_pages = length residue.pages }

abbrev pub RoomBesideLaw : Type 0
RoomBesideLaw = (P : ℕ) (I : List ℕ) (residue : Residue) (state : State) → ReadsBeside P I residue state → (d : ℕ) → Reached P I d → IsDirectory I d → IsApart P I residue d → HasRoomWords P I state d

abbrev pub LinkWordBesideLaw : Type 0
LinkWordBesideLaw = (P : ℕ) (I : List ℕ) (residue : Residue) (state : State) → ReadsBeside P I residue state → (i : ℕ) → Reached P I i → IsApart P I residue i
    → link_count state.tree i ≡ inode_links I i

abbrev pub FilePagesBesideLaw : Type 0
FilePagesBesideLaw = (P : ℕ) (I : List ℕ) (residue : Residue) (state : State) → ReadsBeside P I residue state → (i : ℕ) → Reached P I i → HasBytes I i → IsApart P I residue i
    → Count (IsPageIn P I i) (pages_of_size (inode_size I i))

-- An inode has a kind exactly where it is reached or the residue has it. One without is no node's, and there are as many as are free.
pub record HasInodesBeside (P : ℕ) (I : List ℕ) (residue : Residue) (T : Tree) : Type 0 where
  pub used : (i : ℕ) → 1 ≤ i → i ≤ inodes_of P → (Reached P I i ⊎ IsIn i residue.inodes) ↔ (inode_kind I i ≢ 0)
  pub fresh : (i : ℕ) → IsFreeInode P I i → node_at T i ≡ None
  pub free : (n : ℕ) → Count (IsFreeInode P I) n → free_inodes (supply_beside P residue) T ≡ n

abbrev pub FreeInodeBesideLaw : Type 0
FreeInodeBesideLaw = (P : ℕ) (I : List ℕ) (residue : Residue) (state : State) → ReadsBeside P I residue state → HasInodesBeside P I residue state.tree

-- A page has an owner or a kind exactly where recovery would keep it or the residue has it, and as many have neither as are free.
pub record HasPagesBeside (P : ℕ) (I : List ℕ) (residue : Residue) (state : State) : Type 0 where
  pub used : (j : ℕ) → j < data_pages_of P → (IsKept P I j ⊎ IsIn j residue.pages) ↔ ¬ IsUnusedPage P I j
  pub owned : (j : ℕ) → IsKept P I j → page_owner P I j ≢ 0
  pub free : (n : ℕ) → Count (IsUnusedDataPage P I) n → free_pages (supply_beside P residue) state.tree state.room ≡ n

abbrev pub PageCountBesideLaw : Type 0
PageCountBesideLaw = (P : ℕ) (I : List ℕ) (residue : Residue) (state : State) → ReadsBeside P I residue state → HasPagesBeside P I residue state

-- ---- states

-- What a coherent image reads as is a state of a volume of its size.
abbrev pub StateLaw : Type 0
StateLaw = (P : ℕ) (I : List ℕ) (state : State) → IsCoherent P I → ReadsAs P I state → IsVolumeState P state

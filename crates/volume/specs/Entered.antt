-- What a volume's index and its sets of free numbers gain and lose: at the moments of a running call, and in all, once its action is done.
use Rattle.std.specs.Prelude.{◌≡◌, ℕ, ◌+◌, ◌-◌, ◌<◌, ◌≤◌, Bool, true, false, List, [], ◌∷◌, ◌++◌, length, IsTrue, Contains, Option, Some, None, slice_set}
use Rattle.image_reading.specs.Counts.{IsDistinct}
use Rattle.allocators.specs.Numbers.{IsFree}
use Rattle.volatile_index.specs.Entries.{IsAbsent, IsPresent}
use Rattle.volatile_index.specs.Index.{inodes_of_index, entries_of, has_place_of, pages_of, page_places_of, IsWithPages, DropsPage, PutsEntry, RemovesEntry, ChangesNode}
use Rattle.volume.specs.Volume.{VolumeView}
use Rattle.volume.specs.declared.plan.Moving.{Moving}
use Rattle.volume.specs.declared.plan.Action.{Action}
use Rattle.volume.specs.declared.plan.Action.TheVariants.{Make, Name, Remove, Move, Write as WriteBytes, WriteNothing, Resize, KeepSize, KeepNames, Read as ReadBytes, Status, Names, Space}
use Rattle.volume.specs.declared.plan.Loss.{Loss}
use Rattle.volume.specs.declared.plan.Removal.{Removal}
use Rattle.volume.specs.declared.plan.Resizing.{Resizing}

-- ---- pages of a plan

-- the pages that a directory takes for a new entry
abbrev pub pages_of_option : Option ℕ → List ℕ
pages_of_option None = []
pages_of_option (Some page) = page ∷ []

-- which numbers are free once these are taken, and once these are given back
abbrev pub with_taken : List Bool → List ℕ → List Bool
with_taken free [] = free
with_taken free (page ∷ pages) = with_taken (slice_set free page false) pages

abbrev pub with_given : List Bool → List ℕ → List Bool
with_given free [] = free
with_given free (page ∷ pages) = with_given (slice_set free page true) pages

-- ---- what is reserved

-- the index has room for one more name of a directory, and for so many more pages of an inode
abbrev pub HasEntryPlace : VolumeView → ℕ → Type 0
HasEntryPlace volume directory = IsTrue (has_place_of volume.index directory)

abbrev pub HasPagePlaces : VolumeView → ℕ → List ℕ → Type 0
HasPagePlaces volume inode [] = Unit {0}
HasPagePlaces volume inode (page ∷ pages) = length (pages_of volume.index inode) + length (page ∷ pages) ≤ page_places_of volume.index inode

-- and for a new name with the new page that it may need
pub record HasNamePlace (volume : VolumeView) (directory : ℕ) (new_page : Option ℕ) : Type 0 where
  pub entry : HasEntryPlace volume directory
  pub page : HasPagePlaces volume directory (pages_of_option new_page)

-- a name that takes another's place needs none of its own
abbrev pub HasMovePlace : VolumeView → Moving → Option Loss → Type 0
HasMovePlace volume moving None = HasNamePlace volume moving.to_directory moving.new_page
HasMovePlace volume moving (Some loss) = Unit {0}

-- the index has room for what the action adds
abbrev pub IsReserved : VolumeView → Action → Type 0
IsReserved volume (Make entry) = HasNamePlace volume entry.directory entry.new_page
IsReserved volume (Name link) = HasNamePlace volume link.directory link.new_page
IsReserved volume (Remove removal) = Unit {0}
IsReserved volume (Move moving) = HasMovePlace volume moving moving.replaced
IsReserved volume (WriteBytes writing) = HasPagePlaces volume writing.inode writing.new_pages
IsReserved volume (Resize resizing) = HasPagePlaces volume resizing.inode resizing.new_pages
IsReserved volume WriteNothing = Unit {0}
IsReserved volume KeepSize = Unit {0}
IsReserved volume KeepNames = Unit {0}
IsReserved volume (ReadBytes reading) = Unit {0}
IsReserved volume (Status inode) = Unit {0}
IsReserved volume (Names inode) = Unit {0}
IsReserved volume Space = Unit {0}

-- ---- what is entered

-- The inode gets these pages at the end of its own, in the places that were there, and they are taken.
pub record EntersPages (old new : VolumeView) (inode : ℕ) (pages : List ℕ) : Type 0 where
  pub index : ChangesNode inode old.index new.index (λ old new. IsWithPages (old.pages ++ pages) old new)
  pub rest : new ≡ record old { index = new.index; data_pages = with_taken old.data_pages pages }

-- The directory gets its new page, where there is one, and the name, in the places that were there.
pub record EntersName (old new : VolumeView) (directory : ℕ) (name : List ℕ) (slot : ℕ) (new_page : Option ℕ) : Type 0 where
  pub opened : VolumeView
  pub page : EntersPages old opened directory (pages_of_option new_page)
  pub index : ChangesNode directory opened.index new.index (PutsEntry (record { name = name; slot = slot }))
  pub rest : new ≡ record opened { index = new.index }

-- the inode is taken
abbrev pub EntersInode : VolumeView → VolumeView → ℕ → Type 0
EntersInode old new inode = new ≡ record old { inodes = slice_set old.inodes (inode - 1) false }

-- ---- what a running call enters: its numbers behind its first step, its name and pages behind its commit

-- the new pages are free, each once
pub record MayTakePages (volume : VolumeView) (pages : List ℕ) : Type 0 where
  pub once : IsDistinct pages
  pub free : (page : ℕ) → Contains pages page → IsFree volume.data_pages page

-- the pages are taken; no list has them yet
abbrev pub TakesPages : VolumeView → VolumeView → List ℕ → Type 0
TakesPages old new pages = new ≡ record old { data_pages = with_taken old.data_pages pages }

-- The directory is one of the index and has no entry of the name.
pub record MayPutName (volume : VolumeView) (directory : ℕ) (name : List ℕ) : Type 0 where
  pub least : 1 ≤ directory
  pub most : directory ≤ inodes_of_index volume.index
  pub absent : IsAbsent (entries_of volume.index directory) name

-- the list of the inode gets these pages at its end, in the places that were there
pub record PutsPages (old new : VolumeView) (inode : ℕ) (pages : List ℕ) : Type 0 where
  pub index : ChangesNode inode old.index new.index (λ old new. IsWithPages (old.pages ++ pages) old new)
  pub rest : new ≡ record old { index = new.index }

-- the directory gets its new page, where there is one, in its list, and the name
pub record PutsName (old new : VolumeView) (directory : ℕ) (name : List ℕ) (slot : ℕ) (new_page : Option ℕ) : Type 0 where
  pub opened : VolumeView
  pub page : PutsPages old opened directory (pages_of_option new_page)
  pub index : ChangesNode directory opened.index new.index (PutsEntry (record { name = name; slot = slot }))
  pub rest : new ≡ record opened { index = new.index }

-- ---- what may leave

-- the number is one of the set's, and not free
abbrev pub IsTaken : List Bool → ℕ → Type 0
IsTaken free k = (k < length free) × ¬ IsFree free k

-- The directory is one of the index and has an entry of the name.
pub record MayRemoveName (volume : VolumeView) (directory : ℕ) (name : List ℕ) : Type 0 where
  pub least : 1 ≤ directory
  pub most : directory ≤ inodes_of_index volume.index
  pub present : IsPresent (entries_of volume.index directory) name

-- the page is one of the directory's, where there is one
abbrev pub MayGiveBack : VolumeView → ℕ → Option ℕ → Type 0
MayGiveBack volume directory None = Unit {0}
MayGiveBack volume directory (Some page) = Contains (pages_of volume.index directory) page × IsTaken volume.data_pages page

-- The inode is one of the index, and taken, and so are its pages.
pub record MayGo (volume : VolumeView) (inode : ℕ) : Type 0 where
  pub least : 1 ≤ inode
  pub most : inode ≤ inodes_of_index volume.index
  pub inode_taken : IsTaken volume.inodes (inode - 1)
  pub once : IsDistinct (pages_of volume.index inode)
  pub pages_taken : (page : ℕ) → Contains (pages_of volume.index inode) page → IsTaken volume.data_pages page

-- The inode is one of the index and has so many pages, and they are taken.
pub record MayLosePages (volume : VolumeView) (inode count : ℕ) : Type 0 where
  pub least : 1 ≤ inode
  pub most : inode ≤ inodes_of_index volume.index
  pub enough : count ≤ length (pages_of volume.index inode)
  pub once : IsDistinct (pages_of volume.index inode)
  pub pages_taken : (page : ℕ) → Contains (pages_of volume.index inode) page → IsTaken volume.data_pages page

-- ---- what leaves

-- the entry of the name leaves the directory
pub record LeavesName (old new : VolumeView) (directory : ℕ) (name : List ℕ) : Type 0 where
  pub index : ChangesNode directory old.index new.index (RemovesEntry name)
  pub rest : new ≡ record old { index = new.index }

-- one page leaves the pages of an inode, wherever it stands, and it is free
pub record LeavesPage (old new : VolumeView) (directory page : ℕ) : Type 0 where
  pub index : ChangesNode directory old.index new.index (DropsPage page)
  pub rest : new ≡ record old { index = new.index; data_pages = slice_set old.data_pages page true }

abbrev pub LeavesPageOf : VolumeView → VolumeView → ℕ → Option ℕ → Type 0
LeavesPageOf old new directory None = new ≡ old
LeavesPageOf old new directory (Some page) = LeavesPage old new directory page

-- the last so many pages of a file leave it, and are free
pub record LeavesLastPages (old new : VolumeView) (inode count : ℕ) : Type 0 where
  pub kept : List ℕ
  pub gone : List ℕ
  pub split : pages_of old.index inode ≡ kept ++ gone
  pub count_is : length gone ≡ count
  pub index : ChangesNode inode old.index new.index (λ old new. IsWithPages kept old new)
  pub rest : new ≡ record old { index = new.index; data_pages = with_given old.data_pages gone }

-- the inode leaves with all its pages, and all are free
pub record LeavesInode (old new : VolumeView) (inode : ℕ) : Type 0 where
  pub index : ChangesNode inode old.index new.index (λ old new. IsWithPages [] old new)
  pub rest : new ≡ record old { index = new.index; inodes = slice_set old.inodes (inode - 1) true; data_pages = with_given old.data_pages (pages_of old.index inode) }

-- where it goes
abbrev pub LeavesInodeIf : Bool → VolumeView → VolumeView → ℕ → Type 0
LeavesInodeIf true old new inode = LeavesInode old new inode
LeavesInodeIf false old new inode = new ≡ old

-- ---- what actions do

pub record HasRemoved (old new : VolumeView) (removal : Removal) : Type 0 where
  pub unnamed : VolumeView
  pub given : VolumeView
  pub name : LeavesName old unnamed removal.directory removal.name
  pub page : LeavesPageOf unnamed given removal.directory removal.given_back
  pub inode : LeavesInodeIf removal.loss.goes given new removal.loss.inode

-- the new name: an entry of its own, or that of the node that is replaced, which goes where this was its last name
abbrev pub TakesName : VolumeView → VolumeView → Moving → Option Loss → Type 0
TakesName old new moving None = EntersName old new moving.to_directory moving.to_name moving.to_slot moving.new_page
TakesName old new moving (Some loss) = LeavesInodeIf loss.goes old new loss.inode

pub record HasMoved (old new : VolumeView) (moving : Moving) : Type 0 where
  pub unnamed : VolumeView
  pub named : VolumeView
  pub source : LeavesName old unnamed moving.from_directory moving.from_name
  pub target : TakesName unnamed named moving moving.replaced
  pub page : LeavesPageOf named new moving.from_directory moving.given_back

pub record HasResized (old new : VolumeView) (resizing : Resizing) : Type 0 where
  pub grown : VolumeView
  pub pages : EntersPages old grown resizing.inode resizing.new_pages
  pub cut : LeavesLastPages grown new resizing.inode resizing.cut

-- What the volume knows once the action is done. Where all is said, nothing else has changed.
abbrev pub HasDone : VolumeView → VolumeView → Action → Type 0
HasDone old new (Make entry) =
    (named : VolumeView) × EntersName old named entry.directory entry.name entry.slot entry.new_page × EntersInode named new entry.inode
HasDone old new (Name link) = EntersName old new link.directory link.name link.slot link.new_page
HasDone old new (Remove removal) = HasRemoved old new removal
HasDone old new (Move moving) = HasMoved old new moving
HasDone old new (WriteBytes writing) = EntersPages old new writing.inode writing.new_pages
HasDone old new (Resize resizing) = HasResized old new resizing
HasDone old new WriteNothing = new ≡ old
HasDone old new KeepSize = new ≡ old
HasDone old new KeepNames = new ≡ old
HasDone old new (ReadBytes reading) = new ≡ old
HasDone old new (Status inode) = new ≡ old
HasDone old new (Names inode) = new ≡ old
HasDone old new Space = new ≡ old

-- What a call that waits between two fences has, and that its next step may be made. It has its own words, facts of the tree that its command still
-- needs, and what it has left, beside what the others have left. P is the number of pages, I the words before the step.
use Rattle.std.specs.Prelude.{◌≡◌, ◌≢◌, ◌↔◌, ◌⊎◌, ℕ, ◌+◌, ◌^◌, ◌<◌, ◌≤◌, Bool, true, false, List, [], ◌∷◌, length, reverse, Option, Some, None, slice_get, slice_index, Contains}
use Rattle.layout.specs.Fields.{word, inode_words, inode_links, inode_size, page_owner, page_kind, page_offset, slot_inode, slot_pointer, slot_name, slot_words}
use Rattle.layout.specs.Geometry.{page_of_slot, inode_word_of}
use Rattle.layout.specs.Name.{IsNameWords, name_in_words}
use Rattle.layout.specs.declared.kinds.NodeKind.{NodeKind}
use Rattle.layout.specs.declared.kinds.NodeKind.TheVariants.{File, Directory}
use Rattle.tree_model.specs.PathText.{Route}
use Rattle.tree_model.specs.Tree.{Tree, parent, last_name, id_at, is_directory, is_file, name_count, path_count, link_count}
use Rattle.tree_model.specs.Step.{is_full, new_node}
use Rattle.tree_model.specs.Run.{State}
use Rattle.image_reading.specs.Counts.{IsIn, IsDistinct}
use Rattle.image_reading.specs.Litter.{IsInode, IsZeroSlot}
use Rattle.image_reading.specs.Reading.{IsFile, IsDirectory, slot_owner, IsHeld, Reached, IsNode, pages_of_size}
use Rattle.image_reading.specs.Residue.{Residue, no_residue}
use Rattle.image_counts.specs.Entries as entries
use Rattle.image_counts.specs.Entries.{IsPageIn, IsUnusedDataPage}
use Rattle.image_counts.specs.Laws.{IsApart, ReadsBeside}
use Rattle.image_laws.specs.Add.{IsNewNode, IsOldFile, CanAdd}
use Rattle.image_laws.specs.Create.{node_words}
use Rattle.image_laws.specs.Remove.{CanRemove}
use Rattle.image_laws.specs.Stages.{IsFreeInode, IsReadySlot, IsEmptyPage, MayClearName, MayGive, MayFree}
use Rattle.content_laws.specs.Cut.{MayTrim}
use Rattle.weave_laws.specs.Bytes.{MayWrite, MayFill, MayOwn, MayRaise, MayLower}
use Rattle.weave_laws.specs.Entering.{HasSlotPlace, IsNamelessPage}
use Rattle.weave_laws.specs.Joined.{joined}
use Rattle.weave_laws.specs.Naming.{IsBlankSlot, HasSpareLink, IsWrittenNode, node_left, link_left}
use Rattle.weave_laws.specs.Removing.{unnamed_left, cleared_left, IsPageOfName, IsFallingLink, IsLeftPage}
use Rattle.weave_laws.specs.Sizing.{ArePagesBetween}
use Rattle.weave_laws.specs.Unnaming.{IsFallen, GoesWith}

-- ---- beside others

-- The words read as the state, and the call and the others have left these places. No slot points, since a rename runs alone.
pub record WaitsBeside (P : ℕ) (I : List ℕ) (own others : Residue) (state : State) : Type 0 where
  pub holds : ReadsBeside P I (joined own others) state
  pub no_pointer : (joined own others).pointer ≡ None

-- no page that the others have left is one of inode i
abbrev pub HasNoPageOf : ℕ → List ℕ → Residue → ℕ → Type 0
HasNoPageOf P I others i = (j : ℕ) → IsIn j others.pages → page_owner P I j ≢ i

-- An inode whose links a call has raised, or is to lower, has one link more than is counted in the words, where it has one more than the tree counts.
abbrev pub WaitingLinkLaw : Type 0
WaitingLinkLaw = (P : ℕ) (I : List ℕ) (residue : Residue) (state : State) (x : ℕ) → ReadsBeside P I residue state → IsIn x residue.counts → inode_links I x ≡ link_count state.tree x + 1
    → HasSpareLink P I x

-- The links of a reached inode are left exactly where its link word isn't the number that the tree counts.
abbrev pub WaitingCountedLaw : Type 0
WaitingCountedLaw = (P : ℕ) (I : List ℕ) (residue : Residue) (state : State) (x : ℕ) → ReadsBeside P I residue state → Reached P I x
    → (¬ IsIn x residue.counts) ↔ (inode_links I x ≡ link_count state.tree x)

-- ---- pages

-- Pages stand in the order of their offsets, from the end of one size to that of another.
pub record AreInOrder (P : ℕ) (I pages : List ℕ) (from to : ℕ) : Type 0 where
  pub offsets : (k j : ℕ) → slice_get pages k ≡ Some j → page_offset P I j ≡ pages_of_size from + k
  pub count : length pages + pages_of_size from ≡ pages_of_size to

-- no slot of directory page j names anything or points
pub record IsBarePage (P : ℕ) (I : List ℕ) (j : ℕ) : Type 0 where
  pub kind : page_kind P I j ≡ 2
  pub numbers : (t : ℕ) → page_of_slot t ≡ j → slot_inode P I t ≡ 0
  pub pointers : (t : ℕ) → page_of_slot t ≡ j → slot_pointer P I t ≡ 0

-- ---- a name

-- Slot s is in a page of the path's directory d.
pub record IsPlaceOf (P : ℕ) (I : List ℕ) (T : Tree) (path : Route) (d s : ℕ) : Type 0 where
  pub above : id_at T (parent path) ≡ Some d
  pub directory : is_directory T d ≡ true
  pub held : IsHeld P I s
  pub owner : slot_owner P I s ≡ d

-- ---- it isn't written yet

-- The slot is zero, nothing is at the path, and these are the words of its last name.
pub record IsVacantPlace (P : ℕ) (I : List ℕ) (T : Tree) (path : Route) (d s : ℕ) (name : List ℕ) : Type 0 where
  pub place : IsPlaceOf P I T path d s
  pub open place use *
  pub absent : id_at T path ≡ None
  pub zero : IsZeroSlot P I s
  pub words : IsNameWords name
  pub name_is : name_in_words name ≡ last_name path

-- The call has left nothing, and the name may be written. Where the others have left no page of d, the page has another name.
abbrev pub WaitingPlaceLaw : Type 0
WaitingPlaceLaw = (P : ℕ) (I : List ℕ) (state : State) (path : Route) (d s : ℕ) (name : List ℕ) (others : Residue) → WaitsBeside P I no_residue others state
    → IsVacantPlace P I state.tree path d s name → HasNoPageOf P I others d → IsReadySlot P I (reverse (parent path)) d s name × IsBlankSlot P I d s

-- An inode without a kind may be taken.
abbrev pub WaitingInodeLaw : Type 0
WaitingInodeLaw = (P : ℕ) (I : List ℕ) (state : State) (i : ℕ) (others : Residue) → WaitsBeside P I no_residue others state → entries.IsFreeInode P I i → HasNoPageOf P I others i → IsFreeInode P I i

-- A new page, which has no owner, may get one.
abbrev pub WaitingClaimingLaw : Type 0
WaitingClaimingLaw = (P : ℕ) (I : List ℕ) (state : State) (d j : ℕ) (own others : Residue) → WaitsBeside P I own others state → is_directory state.tree d ≡ true → page_owner P I j ≡ 0
    → IsBarePage P I j → Reached P I d × IsDirectory I d × IsEmptyPage P I j

-- ---- it is written

-- The slot has the path's last name and no number yet, and nothing is at the path.
pub record IsWaitingName (P : ℕ) (I : List ℕ) (T : Tree) (path : Route) (d s : ℕ) : Type 0 where
  pub place : IsPlaceOf P I T path d s
  pub open place use *
  pub absent : id_at T path ≡ None
  pub number : slot_inode P I s ≡ 0
  pub words : IsNameWords (slot_words P I s)
  pub name_is : slot_name P I s ≡ last_name path

-- a directory that takes a new page is full
abbrev pub TakesPageIfFull : State → ℕ → Option ℕ → Type 0
TakesPageIfFull state d None = Unit {0}
TakesPageIfFull state d (Some page) = is_full state.tree state.room d ≡ true

-- The slot may take number i. Its page has another name, or is new, and then the directory is full.
pub record MayCommit (P : ℕ) (I : List ℕ) (state : State) (path : Route) (d s : ℕ) (new_page : Option ℕ) (i : ℕ) : Type 0 where
  pub can : CanAdd P I (reverse (parent path)) d s i
  pub place : IsNamelessPage P I d s new_page
  pub has_place : HasSlotPlace P I state d s
  pub path_is : reverse path ≡ slot_name P I s ∷ reverse (parent path)

-- inode i has the words of a new node
abbrev pub HasNodeWords : List ℕ → NodeKind → ℕ → Type 0
HasNodeWords I kind i = (f : ℕ) → f < inode_words I → word I (inode_word_of i f) ≡ slice_index (node_words kind i) f

pub record MayCommitNode (P : ℕ) (I : List ℕ) (state : State) (path : Route) (kind : NodeKind) (d s : ℕ) (new_page : Option ℕ) (i : ℕ) : Type 0 where
  pub named : MayCommit P I state path d s new_page i
  pub new : IsNewNode P I i
  pub is_node : IsNode P I i (new_node kind)

-- the directory that a directory is made in has one link more than the tree counts
abbrev pub HasRaisedLinks : List ℕ → Tree → NodeKind → ℕ → Type 0
HasRaisedLinks I T Directory d = inode_links I d ≡ link_count T d + 1
HasRaisedLinks I T File d = Unit {0}

-- The node is written, with the links of its directory,
abbrev pub WaitingWordsLaw : Type 0
WaitingWordsLaw = (P : ℕ) (I : List ℕ) (state : State) (kind : NodeKind) (d s : ℕ) (new_page : Option ℕ) (i : ℕ) (others : Residue) → WaitsBeside P I (node_left kind d s new_page i) others state
    → HasNodeWords I kind i → HasRaisedLinks I state.tree kind d → IsWrittenNode P I kind d i

-- and its name may get the number,
abbrev pub WaitingNodeLaw : Type 0
WaitingNodeLaw = (P : ℕ) (I : List ℕ) (state : State) (path : Route) (kind : NodeKind) (d s : ℕ) (new_page : Option ℕ) (i : ℕ) (others : Residue)
    → WaitsBeside P I (node_left kind d s new_page i) others state → IsWaitingName P I state.tree path d s → IsPageOfName s new_page → TakesPageIfFull state d new_page → HasNodeWords I kind i
    → HasNoPageOf P I others i → MayCommitNode P I state path kind d s new_page i

-- or that of a file with a link more
abbrev pub WaitingFileLaw : Type 0
WaitingFileLaw = (P : ℕ) (I : List ℕ) (state : State) (path : Route) (d s : ℕ) (new_page : Option ℕ) (i : ℕ) (others : Residue)
    → WaitsBeside P I (link_left s new_page i) others state → IsWaitingName P I state.tree path d s → IsPageOfName s new_page → TakesPageIfFull state d new_page → IsFile I i
    → MayCommit P I state path d s new_page i × IsOldFile P I i

-- ---- it goes

-- The slot has the path's last name and a number, and a directory that it names is empty.
pub record IsLeavingName (P : ℕ) (I : List ℕ) (T : Tree) (path : Route) (d s : ℕ) : Type 0 where
  pub place : IsPlaceOf P I T path d s
  pub open place use *
  pub number : slot_inode P I s ≢ 0
  pub name_is : slot_name P I s ≡ last_name path
  pub empty : is_directory T (slot_inode P I s) ≡ true → name_count T (slot_inode P I s) ≡ 0

-- The call has left nothing, and the slot may give up its number.
abbrev pub WaitingRemovalLaw : Type 0
WaitingRemovalLaw = (P : ℕ) (I : List ℕ) (state : State) (path : Route) (d s : ℕ) (others : Residue) → WaitsBeside P I no_residue others state → IsLeavingName P I state.tree path d s
    → CanRemove P I (reverse (parent path)) s × (reverse path ≡ slot_name P I s ∷ reverse (parent path))

-- where the page isn't given back it has another name, and where it is it has none
abbrev pub HasOtherName : ℕ → List ℕ → ℕ → Option ℕ → Type 0
HasOtherName P I s None = (t : ℕ) × (t ≢ s) × (page_of_slot t ≡ page_of_slot s) × (slot_inode P I t ≢ 0)
HasOtherName P I s (Some page) = (page_of_slot s ≡ page) × ((t : ℕ) → page_of_slot t ≡ page → t ≢ s → slot_inode P I t ≡ 0)

-- With the name goes a directory, or a file that has no other, and then the file's pages, which are these.
pub record TakesAlong (P : ℕ) (I : List ℕ) (T : Tree) (s : ℕ) (given_back : Option ℕ) (pages : List ℕ) (goes : Bool) (falling : Option ℕ) : Type 0 where
  pub file : IsFile I (slot_inode P I s) → (goes ≡ true) ↔ (path_count T (slot_inode P I s) ≡ 1)
  pub directory : IsDirectory I (slot_inode P I s) → goes ≡ true
  pub of_node : (j : ℕ) → Contains pages j → IsPageIn P I (slot_inode P I s) j
  pub all_pages : IsFile I (slot_inode P I s) → goes ≡ true → AreInOrder P I pages 0 (inode_size I (slot_inode P I s))
  pub no_pages : IsDirectory I (slot_inode P I s) ⊎ (goes ≡ false) → pages ≡ []
  pub page : HasOtherName P I s given_back
  pub link : IsFallen P I s goes falling

-- That is what goes.
abbrev pub WaitingLossLaw : Type 0
WaitingLossLaw = (P : ℕ) (I : List ℕ) (state : State) (path : Route) (d s : ℕ) (given_back : Option ℕ) (pages : List ℕ) (goes : Bool) (falling : Option ℕ) (others : Residue)
    → WaitsBeside P I no_residue others state → IsLeavingName P I state.tree path d s → HasNoPageOf P I others (slot_inode P I s) → TakesAlong P I state.tree s given_back pages goes falling
    → GoesWith P I s given_back pages goes falling

-- The others have left no page of inode x, and its link word is the number that the tree counts.
pub record LeavesAlone (P : ℕ) (I : List ℕ) (T : Tree) (others : Residue) (x : ℕ) : Type 0 where
  pub pages : HasNoPageOf P I others x
  pub links : inode_links I x ≡ link_count T x

-- no slot that the others have left stands in a page of directory d
abbrev pub HasNoSlotOf : ℕ → List ℕ → Residue → ℕ → Type 0
HasNoSlotOf P I others d = (t : ℕ) → IsIn t others.slots → slot_owner P I t ≢ d

-- Then they have left nothing of the node, nor of its directory. A slot in a page of the node they can't have left: such a page has a name, and the node none.
abbrev pub WaitingApartLaw : Type 0
WaitingApartLaw = (P : ℕ) (I : List ℕ) (state : State) (path : Route) (d s : ℕ) (others : Residue) → WaitsBeside P I no_residue others state → IsLeavingName P I state.tree path d s
    → LeavesAlone P I state.tree others (slot_inode P I s) → LeavesAlone P I state.tree others d → HasNoSlotOf P I others d
    → IsApart P I others (slot_inode P I s) × IsApart P I others (slot_owner P I s)

-- y is the inode that has a link less, or the file that goes
abbrev pub IsClearedLink : Bool → ℕ → Option ℕ → ℕ → Type 0
IsClearedLink goes i None y = (goes ≡ true) × (y ≡ i)
IsClearedLink goes i (Some falling) y = y ≡ falling

-- Once the slot has none it may be cleared.
abbrev pub WaitingClearingLaw : Type 0
WaitingClearingLaw = (P : ℕ) (I : List ℕ) (state : State) (s : ℕ) (given_back : Option ℕ) (pages : List ℕ) (goes : Bool) (i : ℕ) (falling : Option ℕ) (y : ℕ) (others : Residue)
    → WaitsBeside P I (unnamed_left s given_back pages goes i falling) others state → IsHeld P I s → slot_inode P I s ≡ 0 → IsClearedLink goes i falling y → MayClearName P I s y

-- and the link word of y, which has one link more than the tree counts, may fall
abbrev pub HasFallingLinks : List ℕ → Tree → Option ℕ → Type 0
HasFallingLinks I T None = Unit {0}
HasFallingLinks I T (Some falling) = inode_links I falling ≡ link_count T falling + 1

abbrev pub WaitingFallingLaw : Type 0
WaitingFallingLaw = (P : ℕ) (I : List ℕ) (state : State) (s : ℕ) (given_back : Option ℕ) (pages : List ℕ) (goes : Bool) (i : ℕ) (falling : Option ℕ) (y : ℕ) (others : Residue)
    → WaitsBeside P I (unnamed_left s given_back pages goes i falling) others state → IsClearedLink goes i falling y → HasFallingLinks I state.tree falling → IsFallingLink P I y falling

-- ---- pages and an inode go

-- Page j is one of the file that goes, or it has no name any more.
abbrev pub IsGoingPage : ℕ → List ℕ → Bool → ℕ → ℕ → Type 0
IsGoingPage P I goes i j = ((goes ≡ true) × (page_owner P I j ≡ i) × (page_kind P I j ≡ 1)) ⊎ IsBarePage P I j

-- Such pages may lose their owner.
abbrev pub WaitingGivingLaw : Type 0
WaitingGivingLaw = (P : ℕ) (I : List ℕ) (state : State) (pages : List ℕ) (goes : Bool) (i : ℕ) (others : Residue) → WaitsBeside P I (cleared_left pages goes i) others state
    → ((j : ℕ) → Contains pages j → IsGoingPage P I goes i j)
    → MayGive P I (Contains pages) × ((j : ℕ) → Contains pages j → IsLeftPage P I (joined (cleared_left pages goes i) others) j)

-- Once they have none the rest may be cleared.
abbrev pub WaitingFreeingLaw : Type 0
WaitingFreeingLaw = (P : ℕ) (I : List ℕ) (state : State) (pages : List ℕ) (goes : Bool) (i : ℕ) (others : Residue) → WaitsBeside P I (cleared_left pages goes i) others state
    → IsInode P i → ((j : ℕ) → Contains pages j → page_owner P I j ≡ 0) → MayFree P I (Contains pages) (goes ≡ true) i

-- ---- the bytes, pages and size of a file

-- The call has left nothing, and the range ends not past the size: it may be written.
abbrev pub WaitingWritingLaw : Type 0
WaitingWritingLaw = (P : ℕ) (I : List ℕ) (state : State) (i offset : ℕ) (bytes : List ℕ) (others : Residue) → WaitsBeside P I no_residue others state → is_file state.tree i ≡ true
    → offset + length bytes ≤ inode_size I i → MayWrite P I i offset bytes

-- Pages that have neither an owner nor a kind may be filled for the file.
abbrev pub WaitingFillingLaw : Type 0
WaitingFillingLaw = (P : ℕ) (I : List ℕ) (state : State) (i : ℕ) (pages : List ℕ) (others : Residue) → WaitsBeside P I no_residue others state → is_file state.tree i ≡ true
    → ((j : ℕ) → Contains pages j → IsUnusedDataPage P I j) → MayFill P I i pages

-- Filled behind the end they may become the file's.
abbrev pub WaitingOwningLaw : Type 0
WaitingOwningLaw = (P : ℕ) (I : List ℕ) (state : State) (i z : ℕ) (pages : List ℕ) (others : Residue) → WaitsBeside P I (cleared_left pages false i) others state → is_file state.tree i ≡ true
    → AreInOrder P I pages (inode_size I i) z → ((j : ℕ) → Contains pages j → (page_owner P I j ≡ 0) × (page_kind P I j ≡ 1)) → MayOwn P I i pages

-- Then the size may rise, and reaches these pages alone.
abbrev pub WaitingRaisingLaw : Type 0
WaitingRaisingLaw = (P : ℕ) (I : List ℕ) (state : State) (i z : ℕ) (pages : List ℕ) (others : Residue) → WaitsBeside P I (cleared_left pages false i) others state → is_file state.tree i ≡ true
    → AreInOrder P I pages (inode_size I i) z → ((j : ℕ) → Contains pages j → page_owner P I j ≡ i) → HasNoPageOf P I others i → inode_size I i < z → z ≤ 2 ^ 40
    → MayRaise P I i z × ArePagesBetween P I i pages (inode_size I i) z

-- The call has left nothing, and the size may fall: these are the pages behind it.
abbrev pub WaitingLoweringLaw : Type 0
WaitingLoweringLaw = (P : ℕ) (I : List ℕ) (state : State) (i z : ℕ) (pages : List ℕ) (others : Residue) → WaitsBeside P I no_residue others state → is_file state.tree i ≡ true
    → AreInOrder P I pages z (inode_size I i) → ((j : ℕ) → Contains pages j → IsPageIn P I i j) → z < inode_size I i
    → MayLower P I i z × IsDistinct pages × ArePagesBetween P I i pages z (inode_size I i)

-- Then they may lose their owner.
abbrev pub WaitingTrimmingLaw : Type 0
WaitingTrimmingLaw = (P : ℕ) (I : List ℕ) (state : State) (i : ℕ) (pages : List ℕ) (others : Residue) → WaitsBeside P I (cleared_left pages false i) others state → is_file state.tree i ≡ true
    → ((j : ℕ) → Contains pages j → page_owner P I j ≡ i) → MayTrim P I i (Contains pages) × ((j : ℕ) → Contains pages j → IsLeftPage P I (joined (cleared_left pages false i) others) j)

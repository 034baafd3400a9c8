-- Plans of accepted commands. P is the number of pages, I the words, d a directory.
use Rattle.std.specs.Prelude.{◌≡◌, ◌≢◌, ℕ, ◌-◌, ◌*◌, ◌<◌, ◌≤◌, Bool, true, false, ◌==◌, List, length, Option, Some, None, is_none}
use Rattle.layout.specs.Geometry.{pieces, page_of_slot}
use Rattle.layout.specs.Fields.{slot_inode}
use Rattle.layout.specs.declared.kinds.NodeKind.{NodeKind}
use Rattle.layout.specs.declared.kinds.NodeKind.TheVariants.{File, Directory}
use Rattle.tree_model.specs.PathText.{Route}
use Rattle.tree_model.specs.Tree.{parent, last_name, id_at, node_at, is_directory, bytes_of, page_bytes}
use Rattle.tree_model.specs.Capacity.{Supply, untaken}
use Rattle.tree_model.specs.Step.{least_free_id, id_of, is_same_node, need, tree_after, resolved, refusal_with}
use Rattle.tree_model.specs.Run.{State}
use Rattle.tree_model.specs.declared.command.Command.{Command}
use Rattle.tree_model.specs.declared.command.Command.TheVariants.{Create, Mkdir, Link, Unlink, Rmdir, Rename, Write, Truncate, Read, Stat as Tell, List as Show, Df}
use Rattle.image_reading.specs.Counts.{Count}
use Rattle.image_counts.specs.Entries.{IsEntryOf, IsSlotIn, IsPageIn, IsUnusedDataPage, IsFreeInode}
use Rattle.volume.specs.Lowest.{AreLowestOf}
use Rattle.volume.specs.Moves.{is_directory_kind}
use Rattle.volume.specs.declared.plan.Moving.{Moving}
use Rattle.volume.specs.declared.plan.Action.{Action}
use Rattle.volume.specs.declared.plan.Action.TheVariants.{Make, Name, Remove, Move, Write as WriteBytes, WriteNothing, Resize, KeepSize, KeepNames, Read as ReadBytes, Status, Names, Space}
use Rattle.volume.specs.declared.plan.NewName.{NewName}
use Rattle.volume.specs.declared.plan.Loss.{Loss}
use Rattle.volume.specs.declared.plan.Removal.{Removal}
use Rattle.volume.specs.declared.plan.NewEntry.{NewEntry}
use Rattle.volume.specs.declared.plan.Writing.{Writing}
use Rattle.volume.specs.declared.plan.Resizing.{Resizing}
use Rattle.volume.specs.declared.plan.Reading.{Reading}

-- ---- the place of a new name

-- a slot of the directory's pages that names nothing
pub record IsVacantSlot (P : ℕ) (I : List ℕ) (d slot : ℕ) : Type 0 where
  pub page : IsSlotIn P I d slot
  pub vacant : slot_inode P I slot ≡ 0

-- the lowest of them
pub record IsLowestSlot (P : ℕ) (I : List ℕ) (d slot : ℕ) : Type 0 where
  pub vacant : IsVacantSlot P I d slot
  pub lowest : (other : ℕ) → other < slot → ¬ IsVacantSlot P I d other

-- the lowest page that has neither an owner nor a kind
pub record IsLowestPage (P : ℕ) (I : List ℕ) (page : ℕ) : Type 0 where
  pub free : IsUnusedDataPage P I page
  pub lowest : (other : ℕ) → other < page → ¬ IsUnusedDataPage P I other

-- the directory needs a new page, and the slot is the first of this one
pub record IsNewPage (P : ℕ) (I : List ℕ) (d page slot : ℕ) : Type 0 where
  pub full : (other : ℕ) → ¬ IsVacantSlot P I d other
  pub page_is : IsLowestPage P I page
  pub slot_is : slot ≡ 32 * page

-- the slot for a new name, and where the directory needs one, the new page that the slot stands in
abbrev pub IsPlace : ℕ → List ℕ → ℕ → ℕ → Option ℕ → Type 0
IsPlace P I d slot None = IsLowestSlot P I d slot
IsPlace P I d slot (Some page) = IsNewPage P I d page slot

-- The path's directory gets its last name, in the lowest place.
pub record IsNewNameAt (P : ℕ) (I : List ℕ) (state : State) (path : Route) (directory : ℕ) (name : List ℕ) (slot : ℕ) (new_page : Option ℕ) : Type 0 where
  pub directory_is : id_at state.tree (parent path) ≡ Some directory
  pub name_is : name ≡ last_name path
  pub place : IsPlace P I directory slot new_page

-- ---- what is there

-- The path's directory has its last name in this slot, and it names the inode.
pub record IsNameAt (P : ℕ) (I : List ℕ) (state : State) (path : Route) (directory : ℕ) (name : List ℕ) (slot inode : ℕ) : Type 0 where
  pub directory_is : id_at state.tree (parent path) ≡ Some directory
  pub name_is : name ≡ last_name path
  pub slot_is : IsEntryOf P I directory name slot
  pub inode_is : id_at state.tree path ≡ Some inode

-- Whether the inode of a name that is taken away goes: it is in no tree after the command. Then all its pages go with it.
pub record IsLossOf (P : ℕ) (I : List ℕ) (state : State) (command : Command) (loss : Loss) : Type 0 where
  pub kind_is : is_directory state.tree loss.inode ≡ is_directory_kind loss.kind
  pub goes_is : loss.goes ≡ is_none (node_at (tree_after (least_free_id state.tree) state.tree command) loss.inode)
  pub pages : loss.goes ≡ true → Count (IsPageIn P I loss.inode) loss.pages
  pub no_pages : loss.goes ≡ false → loss.pages ≡ 0

-- no other slot of its page names anything
abbrev pub IsAlone : ℕ → List ℕ → ℕ → Type 0
IsAlone P I slot = (other : ℕ) → page_of_slot other ≡ page_of_slot slot → other ≢ slot → slot_inode P I other ≡ 0

-- the page of a slot that is cleared is given back exactly where no name is left in it
abbrev pub IsGivenBack : Type 0 → ℕ → Option ℕ → Type 0
IsGivenBack IsEmptied slot None = ¬ IsEmptied
IsGivenBack IsEmptied slot (Some page) = IsEmptied × (page ≡ page_of_slot slot)

-- ---- plans

-- the least inode from 2 that has no kind
pub record IsLeastInode (P : ℕ) (I : List ℕ) (inode : ℕ) : Type 0 where
  pub free : IsFreeInode P I inode
  pub from_two : 2 ≤ inode
  pub least : (other : ℕ) → 2 ≤ other → other < inode → ¬ IsFreeInode P I other

-- The entry is the one that the path asks for, and its inode the least that is free.
pub record IsEntryFor (P : ℕ) (I : List ℕ) (state : State) (path : Route) (kind : NodeKind) (entry : NewEntry) : Type 0 where
  pub kind_is : entry.kind ≡ kind
  pub new_name : IsNewNameAt P I state path entry.directory entry.name entry.slot entry.new_page
  pub open new_name use *
  pub inode_is : IsLeastInode P I entry.inode

pub record IsLinkFor (P : ℕ) (I : List ℕ) (state : State) (from to : Route) (link : NewName) : Type 0 where
  pub new_name : IsNewNameAt P I state to link.directory link.name link.slot link.new_page
  pub inode_is : id_at state.tree from ≡ Some link.inode

pub record IsRemovalFor (P : ℕ) (I : List ℕ) (state : State) (command : Command) (path : Route) (removal : Removal) : Type 0 where
  pub named : IsNameAt P I state path removal.directory removal.name removal.slot removal.loss.inode
  pub loss : IsLossOf P I state command removal.loss
  pub given_back : IsGivenBack (IsAlone P I removal.slot) removal.slot removal.given_back

-- where the name that a move goes to stands: in a new place, or in that of the node that it replaces
abbrev pub IsTargetOf : ℕ → List ℕ → State → Route → Route → Moving → Option Loss → Type 0
IsTargetOf P I state from to moving None = (id_at state.tree to ≡ None) × IsNewNameAt P I state to moving.to_directory moving.to_name moving.to_slot moving.new_page
IsTargetOf P I state from to moving (Some loss) =
    IsNameAt P I state to moving.to_directory moving.to_name moving.to_slot loss.inode × IsLossOf P I state (Rename from to) loss × (moving.new_page ≡ None)

-- The source's page is emptied where no name is left in it, the new one neither.
abbrev pub IsEmptiedBy : ℕ → List ℕ → Moving → Type 0
IsEmptiedBy P I moving = IsAlone P I moving.from_slot × (page_of_slot moving.to_slot ≢ page_of_slot moving.from_slot)

pub record IsMovingFor (P : ℕ) (I : List ℕ) (state : State) (from to : Route) (moving : Moving) : Type 0 where
  pub kind_is : is_directory state.tree moving.inode ≡ is_directory_kind moving.kind
  pub source : IsNameAt P I state from moving.from_directory moving.from_name moving.from_slot moving.inode
  pub target : IsTargetOf P I state from to moving moving.replaced
  pub given_back : IsGivenBack (IsEmptiedBy P I moving) moving.from_slot moving.given_back

-- the new pages of a file: the lowest free ones, as many as the command needs
abbrev pub AreNewPages : ℕ → List ℕ → State → Command → List ℕ → Type 0
AreNewPages P I state command pages = AreLowestOf (IsUnusedDataPage P I) (need state.tree state.room command) pages

pub record IsWritingFor (P : ℕ) (I : List ℕ) (state : State) (path : Route) (offset : ℕ) (bytes : List ℕ) (writing : Writing) : Type 0 where
  pub inode_is : id_at state.tree path ≡ Some writing.inode
  pub offset_is : writing.offset ≡ offset
  pub count_is : writing.count ≡ length bytes
  pub size_is : writing.old_size ≡ length (bytes_of state.tree writing.inode)
  pub new_pages : AreNewPages P I state (Write path offset bytes) writing.new_pages

pub record IsResizingFor (P : ℕ) (I : List ℕ) (state : State) (path : Route) (size : ℕ) (resizing : Resizing) : Type 0 where
  pub inode_is : id_at state.tree path ≡ Some resizing.inode
  pub old_is : resizing.old_size ≡ length (bytes_of state.tree resizing.inode)
  pub new_is : resizing.new_size ≡ size
  pub new_pages : AreNewPages P I state (Truncate path size) resizing.new_pages
  pub cut_is : resizing.cut ≡ pieces resizing.old_size page_bytes - pieces size page_bytes

pub record IsReadingFor (state : State) (path : Route) (offset count : ℕ) (reading : Reading) : Type 0 where
  pub inode_is : id_at state.tree path ≡ Some reading.inode
  pub offset_is : reading.offset ≡ offset
  pub count_is : reading.count ≡ count

-- this is done in place of nothing, or an action that has Q
abbrev pub IsNothingOr : Bool → Action → (Action → Type 0) → Action → Type 0
IsNothingOr true nothing Q action = action ≡ nothing
IsNothingOr false nothing Q action = Q action

abbrev pub is_size_of : State → Route → ℕ → Bool
is_size_of state path size = size == length (bytes_of state.tree (id_of state.tree path))

-- What the plan of an accepted command does, at the paths that its walks reach.
abbrev pub IsPlanOf : ℕ → List ℕ → State → Command → Action → Type 0
IsPlanOf P I state (Create path) action = (entry : NewEntry) × (action ≡ Make entry) × IsEntryFor P I state path File entry
IsPlanOf P I state (Mkdir path) action = (entry : NewEntry) × (action ≡ Make entry) × IsEntryFor P I state path Directory entry
IsPlanOf P I state (Link from to) action = (link : NewName) × (action ≡ Name link) × IsLinkFor P I state from to link
IsPlanOf P I state (Unlink path) action = (removal : Removal) × (action ≡ Remove removal) × IsRemovalFor P I state (Unlink path) path removal
IsPlanOf P I state (Rmdir path) action = (removal : Removal) × (action ≡ Remove removal) × IsRemovalFor P I state (Rmdir path) path removal
IsPlanOf P I state (Rename from to) action =
    IsNothingOr (is_same_node state.tree from to) KeepNames (λ action. (moving : Moving) × (action ≡ Move moving) × IsMovingFor P I state from to moving) action
IsPlanOf P I state (Write path offset bytes) action =
    IsNothingOr (length bytes == 0) WriteNothing (λ action. (writing : Writing) × (action ≡ WriteBytes writing) × IsWritingFor P I state path offset bytes writing) action
IsPlanOf P I state (Truncate path size) action =
    IsNothingOr (is_size_of state path size) KeepSize (λ action. (resizing : Resizing) × (action ≡ Resize resizing) × IsResizingFor P I state path size resizing) action
IsPlanOf P I state (Read path offset count) action = (reading : Reading) × (action ≡ ReadBytes reading) × IsReadingFor state path offset count reading
IsPlanOf P I state (Tell path) action = action ≡ Status (id_of state.tree path)
IsPlanOf P I state (Show path) action = action ≡ Names (id_of state.tree path)
IsPlanOf P I state Df action = action ≡ Space

-- the command is accepted on a volume of which others hold something, and this is what its plan does
pub record IsPlannedWith (supply : Supply) (I : List ℕ) (state : State) (command : Command) (action : Action) : Type 0 where
  pub accepted : refusal_with supply state.tree state.room command ≡ None
  pub plan_is : IsPlanOf supply.pages I state (resolved state.tree command) action

-- and where others hold nothing
abbrev pub IsPlanned : ℕ → List ℕ → State → Command → Action → Type 0
IsPlanned P I state command action = IsPlannedWith (untaken P) I state command action

-- What preparing a command answers and leaves.
use Rattle.std.specs.Prelude.{◌≡◌, ◌≢◌, ◌⊎◌, ℕ, ◌+◌, ◌^◌, ◌<◌, ◌≤◌, Bool, true, false, List, length, ◌||◌, ◌==◌, IsTrue, None, Some, Result, Ok, Err, OnOk, IfOk, IfErr, MatchResult}
use Rattle.pm_trait.specs.Device.{HasRisen}
use Rattle.pm_trait.specs.DeviceView.{DeviceView}
use Rattle.tree_model.specs.Step.{refusal_with}
use Rattle.tree_model.specs.Capacity.{Supply, file_limit}
use Rattle.tree_model.specs.Run.{State, is_changing}
use Rattle.tree_model.specs.Places.{needs_places}
use Rattle.tree_model.specs.declared.command.Command.{Command}
use Rattle.tree_model.specs.declared.reply.Refusal.{Refusal}
use Rattle.tree_model.specs.declared.reply.Refusal.TheVariants.{NoPages, NoMemory}
use Rattle.volatile_index.specs.Index.{NodeView, inodes_of_index, entries_of, has_place_of, pages_of, page_places_of}
use Rattle.volume.specs.Volume.{VolumeView}
use Rattle.volume.specs.Costs.{events_of, pages_of_loss}
use Rattle.allocators.specs.Numbers.{IsFree, free_in}
use Rattle.volume.specs.Lowest.{AreLowestOf}
use Rattle.volume.specs.Beside.{StandsBeside, MayPrepare}
use Rattle.volume.specs.Moves.{is_directory_kind}
use Rattle.volume.specs.Planned.{IsPlannedWith}
use Rattle.image_reading.specs.Counts.{Count}
use Rattle.image_reading.specs.Residue.{Residue}
use Rattle.image_counts.specs.Entries.{IsPageIn}
use Rattle.image_counts.specs.Laws.{supply_beside}
use Rattle.volume.specs.Carried.{HasReserved}
use Rattle.layout.specs.Geometry.{most_data_pages}
use Rattle.layout.specs.Fields.{inode_links}
use Rattle.layout.specs.declared.kinds.NodeKind.{NodeKind}
use Rattle.volume.specs.declared.plan.NewEntry.{NewEntry}
use Rattle.volume.specs.declared.plan.NewName.{NewName}
use Rattle.volume.specs.declared.plan.Loss.{Loss}
use Rattle.volume.specs.declared.plan.Removal.{Removal}
use Rattle.volume.specs.declared.plan.Writing.{Writing}
use Rattle.volume.specs.declared.plan.Resizing.{Resizing}
use Rattle.volume.specs.declared.plan.Action.{Action}
use Rattle.volume.specs.declared.plan.Action.TheVariants.{Make, Name, Remove, Move, Write as WriteBytes, WriteNothing, Resize, KeepSize, KeepNames, Read as ReadBytes, Status, Names, Space}

-- Memory is short for a change that the tree and the room accept: for one that needs no place in a table only where the device
-- refused room.
pub record LacksRoom (supply : Supply) (state : State) (command : Command) (refusal : Refusal) (before after : DeviceView) : Type 0 where
  pub answered : refusal ≡ NoMemory
  pub change : is_changing command ≡ true
  pub accepted : refusal_with supply state.tree state.room command ≡ None
  pub cause : IsTrue (needs_places state command) ⊎ HasRisen before.refused after.refused

-- the tree and the room refuse the command, or they don't and memory is short
abbrev pub IsRefusal : Supply → State → Command → Refusal → DeviceView → DeviceView → Type 0
IsRefusal supply state command refusal before after =
    (refusal_with supply state.tree state.room command ≡ Some refusal) ⊎ LacksRoom supply state command refusal before after

-- The command's plan, beside whatever calls run. They hold what the residue has.
abbrev pub IsPlanFound : VolumeView → DeviceView → Command → Action → Type 0
IsPlanFound volume device command action =
    (state : State) (residue : Residue) → MayPrepare volume device state residue command → IsPlannedWith (supply_beside volume.size residue) device.words state command action

-- This plan, or the first refusal of the command's row.
abbrev pub IsPlanOrRefusal : VolumeView → DeviceView → Command → Result Action Refusal → Type 0
IsPlanOrRefusal volume device command (Ok action) = IsPlanFound volume device command action
IsPlanOrRefusal volume device command (Err refusal) =
    (state : State) (residue : Residue) → MayPrepare volume device state residue command → refusal_with (supply_beside volume.size residue) state.tree state.room command ≡ Some refusal

-- This plan; or the first refusal of the command's row, or memory is short for the list of its new pages.
abbrev pub IsPlanOrShort : VolumeView → DeviceView → Command → Result Action Refusal → Type 0
IsPlanOrShort volume device command (Ok action) = IsPlanFound volume device command action
IsPlanOrShort volume device command (Err refusal) =
    (state : State) (residue : Residue) → MayPrepare volume device state residue command → IsRefusal (supply_beside volume.size residue) state command refusal device device

-- why so many new pages can't be listed: too few are free, or memory is short for a list that isn't empty
abbrev pub LacksPages : ℕ → ℕ → Refusal → Type 0
LacksPages free need refusal = ((refusal ≡ NoPages) × (free < need)) ⊎ ((refusal ≡ NoMemory) × (need ≤ free) × (0 < need))

-- the new pages that a file needs, or why they can't be listed
abbrev pub AreNewPagesOr : List Bool → ℕ → Result (List ℕ) Refusal → Type 0
AreNewPagesOr free need (Ok pages) = AreLowestOf (IsFree free) need pages × (need ≤ free_in free)
AreNewPagesOr free need (Err refusal) = LacksPages (free_in free) need refusal

-- What a node of this kind loses that loses a name: a directory goes, and a file where it has no other. Then all its pages go with it.
pub record IsLeftWith (P : ℕ) (I : List ℕ) (inode : ℕ) (kind : NodeKind) (loss : Loss) : Type 0 where
  pub inode_is : loss.inode ≡ inode
  pub kind_is : loss.kind ≡ kind
  pub goes_is : loss.goes ≡ (is_directory_kind kind || (inode_links I inode == 1))
  pub pages : loss.goes ≡ true → Count (IsPageIn P I inode) loss.pages
  pub no_pages : loss.goes ≡ false → loss.pages ≡ 0

-- ---- what a plan does

-- it makes an entry and its node
abbrev pub IsMaking : Action → Type 0
IsMaking action = (entry : NewEntry) × (action ≡ Make entry)

-- it gives a file one more name
abbrev pub IsNaming : Action → Type 0
IsNaming action = (link : NewName) × (action ≡ Name link)

-- it takes a name away
abbrev pub IsRemoving : Action → Type 0
IsRemoving action = (removal : Removal) × (action ≡ Remove removal)

-- it is what a command does that may change the tree
abbrev pub is_change : Action → Bool
is_change (Make entry) = true
is_change (Name link) = true
is_change (Remove removal) = true
is_change (Move moving) = true
is_change (WriteBytes writing) = true
is_change WriteNothing = true
is_change (Resize resizing) = true
is_change KeepSize = true
is_change KeepNames = true
is_change (ReadBytes reading) = false
is_change (Status inode) = false
is_change (Names inode) = false
is_change Space = false

abbrev pub IsChange : Action → Type 0
IsChange action = IsTrue (is_change action)

-- it takes a place in the index
abbrev pub TakesPlace : Action → Type 0
TakesPlace (Make entry) = Unit {0}
TakesPlace (Name link) = Unit {0}
TakesPlace (Remove removal) = ⊥
TakesPlace (Move moving) = moving.replaced ≡ None
TakesPlace (WriteBytes writing) = 0 < length writing.new_pages
TakesPlace WriteNothing = ⊥
TakesPlace (Resize resizing) = 0 < length resizing.new_pages
TakesPlace KeepSize = ⊥
TakesPlace KeepNames = ⊥
TakesPlace (ReadBytes reading) = ⊥
TakesPlace (Status inode) = ⊥
TakesPlace (Names inode) = ⊥
TakesPlace Space = ⊥

-- ---- what is reserved

-- the directory of the name that comes or goes, or the file, is one of so many inodes
abbrev pub IsNamedIn : ℕ → Action → Type 0
IsNamedIn inodes (Make entry) = (1 ≤ entry.directory) × (entry.directory ≤ inodes)
IsNamedIn inodes (Name link) = (1 ≤ link.directory) × (link.directory ≤ inodes)
IsNamedIn inodes (Remove removal) = (1 ≤ removal.directory) × (removal.directory ≤ inodes)
IsNamedIn inodes (Move moving) = (1 ≤ moving.to_directory) × (moving.to_directory ≤ inodes)
IsNamedIn inodes (WriteBytes writing) = (1 ≤ writing.inode) × (writing.inode ≤ inodes)
IsNamedIn inodes WriteNothing = Unit {0}
IsNamedIn inodes (Resize resizing) = (1 ≤ resizing.inode) × (resizing.inode ≤ inodes)
IsNamedIn inodes KeepSize = Unit {0}
IsNamedIn inodes KeepNames = Unit {0}
IsNamedIn inodes (ReadBytes reading) = Unit {0}
IsNamedIn inodes (Status inode) = Unit {0}
IsNamedIn inodes (Names inode) = Unit {0}
IsNamedIn inodes Space = Unit {0}

-- The sizes are no greater than a file's may be, and the new pages no more than a volume may have.
pub record IsBoundedWriting (writing : Writing) : Type 0 where
  pub old_size : writing.old_size ≤ file_limit
  pub end : writing.offset + writing.count ≤ file_limit
  pub new_pages : length writing.new_pages ≤ most_data_pages

pub record IsBoundedResizing (resizing : Resizing) : Type 0 where
  pub old_size : resizing.old_size ≤ file_limit
  pub cut : resizing.cut ≤ 2 ^ 28
  pub new_pages : length resizing.new_pages ≤ most_data_pages

-- the pages and bytes of a plan are no more than a volume and a file may have
abbrev pub IsBounded : Action → Type 0
IsBounded (Make entry) = Unit {0}
IsBounded (Name link) = Unit {0}
IsBounded (Remove removal) = removal.loss.pages ≤ most_data_pages
IsBounded (Move moving) = pages_of_loss moving.replaced ≤ most_data_pages
IsBounded (WriteBytes writing) = IsBoundedWriting writing
IsBounded WriteNothing = Unit {0}
IsBounded (Resize resizing) = IsBoundedResizing resizing
IsBounded KeepSize = Unit {0}
IsBounded KeepNames = Unit {0}
IsBounded (ReadBytes reading) = Unit {0}
IsBounded (Status inode) = Unit {0}
IsBounded (Names inode) = Unit {0}
IsBounded Space = Unit {0}

-- Memory is short for a change: for one that takes no place in the index only where the device refused room.
pub record IsShort (action : Action) (before after : DeviceView) : Type 0 where
  pub change : IsChange action
  pub cause : TakesPlace action ⊎ HasRisen before.refused after.refused

-- the same entries and pages of each inode; a place for one entry more stays, and there are no fewer for pages
pub record HasSameContents (old new : List NodeView) : Type 0 where
  pub each_inode : inodes_of_index new ≡ inodes_of_index old
  pub entries : (i : ℕ) → entries_of new i ≡ entries_of old i
  pub pages : (i : ℕ) → pages_of new i ≡ pages_of old i
  pub place : (i : ℕ) → IsTrue (has_place_of old i) → IsTrue (has_place_of new i)
  pub page_places : (i : ℕ) → page_places_of old i ≤ page_places_of new i

-- all is as before but for places in the index
pub record IsSameButPlaces (old new : VolumeView) : Type 0 where
  pub same_size : new.size ≡ old.size
  pub same_state : new.stopped ≡ old.stopped
  pub same_mark : new.marked ≡ old.marked
  pub same_kept : new.kept ≡ old.kept
  pub index : HasSameContents old.index new.index
  pub inodes : new.inodes ≡ old.inodes
  pub data_pages : new.data_pages ≡ old.data_pages

-- all is as before but for room, and for reserves that were refused
pub record IsSameButRoom (before after : DeviceView) : Type 0 where
  pub words : after.words ≡ before.words
  pub trail : after.trail ≡ before.trail
  pub room : before.spare ≤ after.spare
  pub faults : after.faults ≡ before.faults
  pub refused : before.refused ≤ after.refused
  pub fences : after.fences ≡ before.fences
  pub acks : after.acks ≡ before.acks

-- What the action adds has its room, or memory was short. One that takes no place leaves the volume, and one without an event takes
-- nothing.
pub record TakesRoom {E : Type 0} (old new : VolumeView) (before after : DeviceView) (action : Action) (result : Result (Unit {0}) E) : Type 0 where
  pub view : IsSameButPlaces old new
  pub device : IsSameButRoom before after
  pub accepted : OnOk result (HasReserved new after action × (after.refused ≡ before.refused))
  pub no_place : ¬ TakesPlace action → new ≡ old
  pub idle : events_of action ≡ 0 → (new ≡ old) × (after ≡ before)

-- A plan has its room. A command that needs no place leaves the volume, whatever the answer. A refusal takes no memory unless memory
-- is what was short, nor does a plan without an event, nor a command that reads.
pub record Prepares (old new : VolumeView) (before after : DeviceView) (command : Command) (result : Result Action Refusal) : Type 0 where
  pub view : IsSameButPlaces old new
  pub device : IsSameButRoom before after
  pub accepted : IfOk result (λ plan. HasReserved new after plan × (after.refused ≡ before.refused))
  pub no_place : (state : State) (residue : Residue) → MayPrepare old before state residue command → needs_places state command ≡ false → new ≡ old
  pub refused : IfErr result (λ refusal. refusal ≢ NoMemory → (new ≡ old) × (after ≡ before))
  pub idle : IfOk result (λ plan. events_of plan ≡ 0 → (new ≡ old) × (after ≡ before))
  pub reading : is_changing command ≡ false → (new ≡ old) × (after ≡ before)

-- What preparing promises beside calls that run: the command's plan or why there is none, and a volume that stands as before, whatever
-- the answer.
pub record HasPrepared (old new : VolumeView) (before after : DeviceView) (command : Command) (result : Result Action Refusal) : Type 0 where
  pub answers : (state : State) (residue : Residue) → MayPrepare old before state residue command → MatchResult result
      (λ plan. IsPlannedWith (supply_beside new.size residue) after.words state command plan)
      (λ refusal. IsRefusal (supply_beside old.size residue) state command refusal before after)
  pub stands : (state : State) (residue : Residue) → StandsBeside old before state residue → StandsBeside new after state residue
  pub leaves : Prepares old new before after command result

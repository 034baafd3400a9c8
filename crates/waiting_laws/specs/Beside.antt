-- A running call that waits between two fences, beside others: what it holds, what a step of its own leaves, and what a step of another call
-- leaves of what it has. P is the number of pages, I the words before a step, J those after it.
use Rattle.std.specs.Prelude.{◌≡◌, ◌≢◌, ◌⊎◌, ℕ, ◌-◌, ◌^◌, ◌≤◌, false, IsTrue, List, Some, None, Ok, Contains}
use Rattle.pm_trait.specs.DeviceView.{DeviceView}
use Rattle.pm_trait.specs.Unfolds.{Step, Takes}
use Rattle.layout.specs.Geometry.{page_of_slot}
use Rattle.layout.specs.Fields.{inode_kind, page_owner, slot_inode}
use Rattle.tree_model.specs.PathText.{Route}
use Rattle.tree_model.specs.Tree.{parent, id_at}
use Rattle.tree_model.specs.Run.{State}
use Rattle.tree_model.specs.declared.command.Command.{Command}
use Rattle.naming_laws.specs.Still.{KeepsNode}
use Rattle.image_reading.specs.Counts.{IsIn}
use Rattle.image_reading.specs.Reading.{IsHeld}
use Rattle.image_reading.specs.Residue.{Residue}
use Rattle.image_reading.specs.Soundness.{Sound}
use Rattle.image_counts.specs.Laws.{supply_beside}
use Rattle.image_laws.specs.CreateStep.{IsStepped}
use Rattle.image_laws.specs.Frame.{IsSoundAs}
use Rattle.image_laws.specs.Quiet.{IsMix}
use Rattle.weave_laws.specs.Beside.{StoresIn, AreInVolume, AreApart, Keeps}
use Rattle.weave_laws.specs.Joined.{joined}
use Rattle.weave_laws.specs.Waiting.{HasNoPageOf}
use Rattle.volatile_index.specs.Index.{NodeView, node_of, entries_of, has_place_of, pages_of, page_places_of}
use Rattle.volume.specs.Volume.{VolumeView}
use Rattle.volume.specs.Beside.{StandsBeside, IsUntouched, MayPrepare}
use Rattle.volume.specs.Carried.{HasReserved}
use Rattle.volume.specs.Planned.{IsPlannedWith}
use Rattle.volume.specs.declared.plan.Action.{Action}

-- ---- what a call holds

-- the slots, pages and inodes to whose words its steps store, with the page of each slot, and the nodes that its command names
pub record Holding : Type 0 where
  pub slots : List ℕ
  pub pages : List ℕ
  pub inodes : List ℕ

-- a held slot of a page that is left names nothing
abbrev pub NamesNothing : ℕ → List ℕ → Residue → Type 0
NamesNothing P I residue = (t : ℕ) → IsIn (page_of_slot t) residue.pages → IsHeld P I t → slot_inode P I t ≡ 0

-- What the call has left lies within what it holds, and touches no other inode. A page that it holds is left, or is one of its inodes', and
-- these are in use.
pub record Holds (volume : VolumeView) (I : List ℕ) (own : Residue) (held : Holding) : Type 0 where
  pub in_volume : AreInVolume volume.size held.pages held.inodes
  pub of_slots : (s : ℕ) → IsIn s held.slots → IsIn (page_of_slot s) held.pages
  pub of_pages : (j : ℕ) → IsIn j held.pages → IsIn j own.pages ⊎ (IsIn (page_owner volume.size I j) held.inodes)
  pub used : (i : ℕ) → IsIn i held.inodes → inode_kind I i ≢ 0
  pub bare : NamesNothing volume.size I own
  pub left_slots : (s : ℕ) → IsIn s own.slots → IsIn s held.slots
  pub left_pages : (j : ℕ) → IsIn j own.pages → IsIn j held.pages
  pub left_inodes : (i : ℕ) → IsIn i own.inodes → IsIn i held.inodes
  pub untouched : (x : ℕ) → ¬ IsIn x held.inodes → 1 ≤ x → IsUntouched volume I own x

-- ---- it begins

-- The command was prepared beside the others, and what its plan adds is reserved; no page that they have left is that of an unused inode, or
-- names anything.
pub record IsReady (volume : VolumeView) (device : DeviceView) (state : State) (command : Command) (action : Action) (others : Residue) : Type 0 where
  pub prepared : MayPrepare volume device state others command
  pub planned : IsPlannedWith (supply_beside volume.size others) device.words state command action
  pub reserved : HasReserved volume device action
  pub going : volume.stopped ≡ false
  pub unmarked : volume.marked ≡ false
  pub no_pointer : others.pointer ≡ None
  pub few : volume.kept ≤ 2 ^ 62
  pub unused : (i : ℕ) → 1 ≤ i → inode_kind device.words i ≡ 0 → HasNoPageOf volume.size device.words others i
  pub bare : NamesNothing volume.size device.words others

-- ---- where it waits

-- The volume goes on and has no mark, and stands for the state beside what the call and the others have left. No slot points, since a rename
-- runs alone.
pub record StandsWith (volume : VolumeView) (device : DeviceView) (state : State) (own others : Residue) : Type 0 where
  pub stands : StandsBeside volume device state (joined own others)
  pub going : volume.stopped ≡ false
  pub unmarked : volume.marked ≡ false
  pub no_pointer : (joined own others).pointer ≡ None

-- ---- its own step

-- The step, whose events were kept, was made to its fence, and the volume has taken in what it made.
pub record MakesStep (step : Step) (Enters : VolumeView → VolumeView → Type 0) (old new : VolumeView) (before after : DeviceView) : Type 0 where
  pub kept : step.events ≤ old.kept
  pub takes : Takes {T = Unit {0}} {E = Unit {0}} step before after (Ok tt)
  pub enters : Enters (record old { kept = old.kept - step.events }) new

-- Of other inodes the volume knows what it knew, and no list gets a page that isn't one of these.
pub record Affects (old new : VolumeView) (held : Holding) : Type 0 where
  pub size : new.size ≡ old.size
  pub others : (i : ℕ) → ¬ IsIn i held.inodes → node_of new.index i ≡ node_of old.index i
  pub lists : (i j : ℕ) → Contains (pages_of new.index i) j → Contains (pages_of old.index i) j ⊎ IsIn j held.pages

-- The volume stands beside what the call has left now. The step stored to words of what the call holds alone, and so did the volume change.
pub record Leaves (old new : VolumeView) (before after : DeviceView) (later : State) (next others : Residue) (held : Holding) : Type 0 where
  pub beside : StandsWith new after later next others
  pub stores : StoresIn old.size before.words after.words held.slots held.pages held.inodes
  pub affects : Affects old new held

-- a crash in a step that commits nothing leaves what is sound and means what the words before it mean
abbrev pub KeepsMeaning : ℕ → List ℕ → List ℕ → Type 0
KeepsMeaning P I J = (M : List ℕ) → IsMix I J M → IsSoundAs P I M

-- A crash in a step that commits a command leaves the words before or those after, and these are sound and read as a state that the command
-- leaves.
pub record Commits (P : ℕ) (I J : List ℕ) (old : State) (command : Command) (i : ℕ) : Type 0 where
  pub crash : (M : List ℕ) → IsMix I J M → (M ≡ I) ⊎ (M ≡ J)
  pub sound : Sound P J
  pub stepped : IsStepped P J old command i

-- ---- what a step of another call leaves

-- The nodes of these inodes are as they were, and so are their paths and what is at a path in one of them.
pub record KeepsNodes (inodes : List ℕ) (old new : State) : Type 0 where
  pub nodes : (id : ℕ) → IsIn id inodes → KeepsNode id old new
  pub paths : (path : Route) (id : ℕ) → IsIn id inodes → id_at old.tree path ≡ Some id → id_at new.tree path ≡ Some id
  pub names : (path : Route) (id : ℕ) → IsIn id inodes → id_at old.tree (parent path) ≡ Some id → id_at new.tree path ≡ id_at old.tree path

-- What the index has of the inode is as it was, but that there may be more places. (Another command that is prepared takes places.)
pub record HasSameNode (i : ℕ) (old new : List NodeView) : Type 0 where
  pub entries : entries_of new i ≡ entries_of old i
  pub pages : pages_of new i ≡ pages_of old i
  pub place : IsTrue (has_place_of old i) → IsTrue (has_place_of new i)
  pub page_places : page_places_of old i ≤ page_places_of new i

-- What the call holds is as it was: its words, its nodes, what the volume knows of its inodes; and no list gets a page of its.
pub record PassesBy (old new : VolumeView) (before after : DeviceView) (state later : State) (held : Holding) : Type 0 where
  pub size : new.size ≡ old.size
  pub words : Keeps old.size before.words after.words held.slots held.pages held.inodes
  pub nodes : KeepsNodes held.inodes state later
  pub index : (i : ℕ) → IsIn i held.inodes → HasSameNode i old.index new.index
  pub lists : (i j : ℕ) → IsIn j held.pages → Contains (pages_of new.index i) j → Contains (pages_of old.index i) j

-- ---- two calls

-- Two calls that hold no inode together hold nothing together,
abbrev pub HoldsApartLaw : Type 0
HoldsApartLaw = (volume : VolumeView) (device : DeviceView) (state : State) (one other rest : Residue) (held others_held : Holding) → StandsBeside volume device state (joined one (joined other rest))
    → Holds volume device.words one held → Holds volume device.words other others_held → ((i : ℕ) → IsIn i held.inodes → ¬ IsIn i others_held.inodes)
    → AreApart held.slots held.pages held.inodes others_held.slots others_held.pages others_held.inodes

-- and a step of one passes by the other.
abbrev pub PassesByLaw : Type 0
PassesByLaw = (old new : VolumeView) (before after : DeviceView) (state later : State) (held others_held : Holding) → AreInVolume old.size held.pages held.inodes
    → AreInVolume old.size others_held.pages others_held.inodes → AreApart held.slots held.pages held.inodes others_held.slots others_held.pages others_held.inodes
    → StoresIn old.size before.words after.words held.slots held.pages held.inodes → Affects old new held → KeepsNodes others_held.inodes state later
    → PassesBy old new before after state later others_held

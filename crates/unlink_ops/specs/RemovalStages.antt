-- The taking away of a name between two steps of its call: what stands then of the device and of the volume as they are, and what the next
-- step makes. P is the number of pages, I the words; the pages are those that go with the node.
use Rattle.std.specs.Prelude.{◌≡◌, ◌≢◌, ◌⊎◌, ℕ, ◌*◌, ◌<◌, ◌≤◌, true, false, nat_lt, if◌then◌else◌, List, [], ◌∷◌, length, Contains, Option, Some, None}
use Rattle.pm_trait.specs.DeviceView.{DeviceView}
use Rattle.pm_trait.specs.Unfolds.{Step, events_in}
use Rattle.layout.specs.Geometry.{most_data_pages, inodes_of, data_pages_of, page_of_slot}
use Rattle.layout.specs.Fields.{inode_kind, inode_own, inode_links, page_owner, page_kind, slot_inode}
use Rattle.layout.specs.Kinds.{node_code}
use Rattle.layout.specs.declared.kinds.NodeKind.TheVariants.{File}
use Rattle.tree_model.specs.declared.reply.Reply.TheVariants.{Done}
use Rattle.inode_state.specs.States.{IsLive as IsNode}
use Rattle.inode_state.specs.Inode.{fields_at}
use Rattle.inode_state.specs.Unused.{IsHeldSlot}
use Rattle.volatile_index.specs.Index.{inodes_of_index}
use Rattle.volume.specs.Volume.{VolumeView}
use Rattle.volume.specs.Costs.{pages_removed, where_true}
use Rattle.volume.specs.Entered.{MayRemoveName, MayGiveBack, MayGo, LeavesName, LeavesPageOf, LeavesInodeIf}
use Rattle.volume.specs.Stages.{HasKept, keeping}
use Rattle.volume.specs.declared.next.Held.{Held}
use Rattle.volume.specs.declared.next.Next.{Next}
use Rattle.volume.specs.declared.next.Next.TheVariants.{More, Ended}
use Rattle.volume.specs.declared.plan.Removal.{Removal}
use Rattle.volume.specs.declared.plan.Action.{Action}
use Rattle.volume.specs.declared.plan.Action.TheVariants.{Remove}
use Rattle.removal_steps.specs.Steps.{HasLink, AreFilePages, MayEmpty, CanUnname, CanClear, CanDisown, CanClearRest, gone_pages, unnaming, clearing, giving, freeing}
use Rattle.unlink_ops.specs.declared.removal.Stage.{Stage}
use Rattle.unlink_ops.specs.declared.removal.Stage.TheVariants.{Begun, Unnamed, Cleared, Disowned}
use Rattle.unlink_ops.specs.Taking.{falling_by, steps_of}

-- the removal, and what of it is settled
pub record RunningView : Type 0 where
  pub removal : Removal
  pub stage : Stage

abbrev pub begun : Removal → RunningView
begun removal = record { removal = removal; stage = Begun }

-- the pages that go with its node
abbrev pub pages_gone : VolumeView → Removal → List ℕ
pages_gone volume removal = gone_pages volume (Some removal.loss)

-- ---- the steps that are left

abbrev pub freeing_of : ℕ → Removal → List ℕ → Step
freeing_of P removal pages = freeing P pages removal.given_back removal.loss.goes removal.loss.inode

abbrev pub left_at : ℕ → Removal → List ℕ → Stage → List Step
left_at P removal pages Begun = steps_of P removal pages
left_at P removal pages Unnamed = clearing P removal.slot (falling_by removal.loss.kind removal) ∷ giving P pages removal.given_back ∷ freeing_of P removal pages ∷ []
left_at P removal pages Cleared = giving P pages removal.given_back ∷ freeing_of P removal pages ∷ []
left_at P removal pages Disowned = freeing_of P removal pages ∷ []

abbrev pub left_of : VolumeView → RunningView → List Step
left_of volume running = left_at volume.size running.removal (pages_gone volume running.removal) running.stage

-- and the first of them
abbrev pub step_at : ℕ → Removal → List ℕ → Stage → Step
step_at P removal pages Begun = unnaming P removal.slot
step_at P removal pages Unnamed = clearing P removal.slot (falling_by removal.loss.kind removal)
step_at P removal pages Cleared = giving P pages removal.given_back
step_at P removal pages Disowned = freeing_of P removal pages

abbrev pub step_of : VolumeView → RunningView → Step
step_of volume running = step_at volume.size running.removal (pages_gone volume running.removal) running.stage

-- ---- what stands before it, of the device

-- The page is a directory's, and no slot of it names anything, but for this one.
pub record IsEmptiedBut (P : ℕ) (I : List ℕ) (but page : ℕ) : Type 0 where
  pub in_range : page < data_pages_of P
  pub owned : page_owner P I page ≢ 0
  pub kind : page_kind P I page ≡ 2
  pub slots : (slot : ℕ) → page_of_slot slot ≡ page → slot ≢ but → slot_inode P I slot ≡ 0

abbrev pub MayEmptyBut : ℕ → List ℕ → ℕ → Option ℕ → Type 0
MayEmptyBut P I but None = Unit {0}
MayEmptyBut P I but (Some page) = IsEmptiedBut P I but page

-- The file has one link left.
pub record HasLastLink (I : List ℕ) (removal : Removal) : Type 0 where
  pub kind : removal.loss.kind ≡ File
  pub node : IsNode removal.loss.inode (fields_at I removal.loss.inode)
  pub links : inode_links I removal.loss.inode ≡ 1

-- What `CanClearRest` asks of a node that goes, but for the pages that it has and the slot that names it.
pub record IsGoingBut (P : ℕ) (I : List ℕ) (removal : Removal) (pages : List ℕ) (IsName : ℕ → Type 0) : Type 0 where
  pub least : 1 ≤ removal.loss.inode
  pub most : removal.loss.inode ≤ inodes_of P
  pub kind_is : inode_kind I removal.loss.inode ≡ node_code removal.loss.kind
  pub own : inode_own I removal.loss.inode ≡ removal.loss.inode
  pub unowned : (page : ℕ) → page < data_pages_of P → ¬ Contains pages page → page_owner P I page ≢ removal.loss.inode
  pub unnamed : (slot : ℕ) → IsHeldSlot P I slot → ¬ IsName slot → slot_inode P I slot ≢ removal.loss.inode

-- the name is there
pub record IsThere (P : ℕ) (I : List ℕ) (removal : Removal) (pages : List ℕ) : Type 0 where
  pub named : CanUnname P I removal.slot
  pub linked : HasLink P I (falling_by removal.loss.kind removal)
  pub file : AreFilePages P I removal.loss.inode pages
  pub last : 0 < length pages → HasLastLink I removal
  pub emptied : MayEmptyBut P I removal.slot removal.given_back
  pub going : removal.loss.goes ≡ true → IsGoingBut P I removal pages (λ slot. slot ≡ removal.slot)

-- it is gone, and its slot and the link are as they were
pub record IsUnnamed (P : ℕ) (I : List ℕ) (removal : Removal) (pages : List ℕ) : Type 0 where
  pub clear : CanClear P I removal.slot (falling_by removal.loss.kind removal)
  pub file : AreFilePages P I removal.loss.inode pages
  pub last : 0 < length pages → HasLastLink I removal
  pub emptied : MayEmpty P I removal.given_back
  pub going : removal.loss.goes ≡ true → IsGoingBut P I removal pages (λ slot. ⊥)

-- the slot is free, and pages are to be given back
pub record IsCleared (P : ℕ) (I : List ℕ) (removal : Removal) (pages : List ℕ) : Type 0 where
  pub some : 0 < pages_removed removal
  pub disown : CanDisown P I (Some removal.loss) pages removal.given_back
  pub going : removal.loss.goes ≡ true → IsGoingBut P I removal pages (λ slot. ⊥)

-- the pages have no owner any more, and there is something to free
pub record IsDisowned (P : ℕ) (I : List ℕ) (removal : Removal) (pages : List ℕ) : Type 0 where
  pub some : (0 < pages_removed removal) ⊎ (removal.loss.goes ≡ true)
  pub rest : CanClearRest P I (Some removal.loss) pages removal.given_back

abbrev pub IsAt : ℕ → List ℕ → Removal → List ℕ → Stage → Type 0
IsAt P I removal pages Begun = IsThere P I removal pages
IsAt P I removal pages Unnamed = IsUnnamed P I removal pages
IsAt P I removal pages Cleared = IsCleared P I removal pages
IsAt P I removal pages Disowned = IsDisowned P I removal pages

-- ---- and of the volume

-- the name is there until it is taken out
abbrev pub HasName : VolumeView → Removal → Stage → Type 0
HasName volume removal Begun = MayRemoveName volume removal.directory removal.name
HasName volume removal Unnamed = Unit {0}
HasName volume removal Cleared = Unit {0}
HasName volume removal Disowned = Unit {0}

-- What is given back is in the volume: the page of the slot, and the inode with its pages, no more than a volume may have; they are apart.
pub record HasLosses (volume : VolumeView) (removal : Removal) : Type 0 where
  pub node : (1 ≤ removal.loss.inode) × (removal.loss.inode ≤ inodes_of_index volume.index)
  pub directory : (1 ≤ removal.directory) × (removal.directory ≤ inodes_of_index volume.index)
  pub count : length (pages_gone volume removal) ≡ removal.loss.pages
  pub few : removal.loss.pages ≤ most_data_pages
  pub page : MayGiveBack volume removal.directory removal.given_back
  pub inode : removal.loss.goes ≡ true → MayGo volume removal.loss.inode
  pub apart : removal.loss.goes ≡ true → (removal.directory ≢ removal.loss.inode) × ((page : ℕ) → removal.given_back ≡ Some page → ¬ Contains (pages_gone volume removal) page)

-- The call may make its next step: its words stand, its events are kept, and what goes is in the volume.
pub record StandsStage (volume : VolumeView) (device : DeviceView) (running : RunningView) : Type 0 where
  pub going : volume.stopped ≡ false
  pub whole : length device.words ≡ 512 * volume.size
  pub words : IsAt volume.size device.words running.removal (pages_gone volume running.removal) running.stage
  pub kept : HasKept volume device (events_in (left_of volume running))
  pub name : HasName volume running.removal running.stage
  pub losses : HasLosses volume running.removal

abbrev pub StandsNext : VolumeView → DeviceView → Next RunningView → Type 0
StandsNext volume device (More running) = StandsStage volume device running
StandsNext volume device (Ended reply) = Unit {0}

-- The plan takes a name away, the volume has no mark, and once the plan's events are kept, its first stage stands.
abbrev pub MayBegin : VolumeView → DeviceView → Action → Type 0
MayBegin volume device plan = (removal : Removal) × (plan ≡ Remove removal) × (volume.marked ≡ false) × StandsStage (keeping volume plan) device (begun removal)

-- ---- what comes of it

abbrev pub at_stage : Removal → Stage → Next RunningView
at_stage removal stage = More (record { removal = removal; stage = stage })

-- The next step that has a store: pages lose their owner, then they and the inode are freed.
abbrev pub next_of : Removal → Stage → Next RunningView
next_of removal Begun = at_stage removal Unnamed
next_of removal Unnamed =
    if nat_lt 0 (pages_removed removal) then at_stage removal Cleared
    else if removal.loss.goes then at_stage removal Disowned else Ended Done
next_of removal Cleared = at_stage removal Disowned
next_of removal Disowned = Ended Done

-- the same by the stage alone, where there is one
abbrev pub next_at : Removal → Option Stage → Next RunningView
next_at removal None = Ended Done
next_at removal (Some stage) = at_stage removal stage

-- the page is given back, and the inode with its pages where it goes
pub record GivesBack (old new : VolumeView) (removal : Removal) : Type 0 where
  pub given : VolumeView
  pub page : LeavesPageOf old given removal.directory removal.given_back
  pub inode : LeavesInodeIf removal.loss.goes given new removal.loss.inode

-- what the volume takes in behind the step: the name goes behind the first, which commits, and numbers are given back behind the last
abbrev pub EntersAtStage : Removal → Stage → VolumeView → VolumeView → Type 0
EntersAtStage removal Begun old new = LeavesName old new removal.directory removal.name
EntersAtStage removal Unnamed old new = new ≡ old
EntersAtStage removal Cleared old new = new ≡ old
EntersAtStage removal Disowned old new = GivesBack old new removal

abbrev pub EntersAt : RunningView → VolumeView → VolumeView → Type 0
EntersAt running old new = EntersAtStage running.removal running.stage old new

abbrev pub lost_of : Removal → Held
lost_of removal = record { inodes = where_true removal.loss.goes 1; pages = pages_removed removal }

-- what it holds: behind its commit the inode and the pages that it has to give back
abbrev pub held_at : Removal → Stage → Held
held_at removal Begun = record { inodes = 0; pages = 0 }
held_at removal Unnamed = lost_of removal
held_at removal Cleared = lost_of removal
held_at removal Disowned = lost_of removal

abbrev pub held_of : RunningView → Held
held_of running = held_at running.removal running.stage

-- The making of an entry between two of its steps: what stands then of the device and of the volume as they are, and what the next step
-- makes. P is the number of pages.
use Rattle.std.specs.Prelude.{◌≡◌, ℕ, ◌-◌, ◌*◌, ◌≤◌, false, List, [], ◌∷◌, length}
use Rattle.pm_trait.specs.DeviceView.{DeviceView}
use Rattle.pm_trait.specs.Unfolds.{Step, events_in}
use Rattle.layout.specs.Geometry.{inodes_of}
use Rattle.fence_token.specs.declared.states.Clean.{Clean}
use Rattle.tree_model.specs.declared.reply.Reply.TheVariants.{Done}
use Rattle.allocators.specs.Numbers.{IsFree}
use Rattle.inode_state.specs.Inode.{InodeView, InodeIsClean}
use Rattle.volume.specs.Volume.{VolumeView}
use Rattle.volume.specs.Costs.{count_of}
use Rattle.volume.specs.Entered.{pages_of_option, HasNamePlace, IsTaken, MayTakePages, MayPutName, TakesPages, EntersInode, PutsName}
use Rattle.volume.specs.Stages.{HasKept, keeping}
use Rattle.volume.specs.declared.next.Held.{Held}
use Rattle.volume.specs.declared.next.Next.{Next}
use Rattle.volume.specs.declared.next.Next.TheVariants.{More, Ended}
use Rattle.volume.specs.declared.plan.NewEntry.{NewEntry}
use Rattle.volume.specs.declared.plan.Action.{Action}
use Rattle.volume.specs.declared.plan.Action.TheVariants.{Make}
use Rattle.entry_steps.specs.declared.place.NamePlace.{NamePlace}
use Rattle.entry_steps.specs.declared.place.NamePlace.TheVariants.{Slot, Page}
use Rattle.entry_steps.specs.Steps.{naming}
use Rattle.entry_steps.specs.Waiting.{IsSlotAt, IsPlaceAt, HasTakenPage, left_of_place, step_of_place}
use Rattle.create_ops.specs.declared.node.NewNode.{NewNode}
use Rattle.create_ops.specs.declared.run.NamedNode.{NamedNode}
use Rattle.create_ops.specs.declared.run.Stage.{Stage}
use Rattle.create_ops.specs.declared.run.Stage.TheVariants.{Begun, Written, Claimed}
use Rattle.create_ops.specs.Making.{IsReady, writing, steps_of}

-- the entry that is made, and what of it is settled
pub record RunningView : Type 0 where
  pub entry : NewEntry
  pub stage : Stage

abbrev pub begun : NewEntry → RunningView
begun entry = record { entry = entry; stage = Begun }

-- ---- the steps that are left

abbrev pub left_at : ℕ → NewEntry → Stage → List Step
left_at P entry Begun = steps_of P entry
left_at P entry (Written node) = left_of_place P entry.directory entry.slot entry.inode node.place
left_at P entry (Claimed node) = naming P entry.slot entry.inode ∷ []

abbrev pub left_of : ℕ → RunningView → List Step
left_of P running = left_at P running.entry running.stage

-- and the first of them
abbrev pub step_at : ℕ → NewEntry → Stage → Step
step_at P entry Begun = writing P entry
step_at P entry (Written node) = step_of_place P entry.directory entry.slot entry.inode node.place
step_at P entry (Claimed node) = naming P entry.slot entry.inode

abbrev pub step_of : ℕ → RunningView → Step
step_of P running = step_at P running.entry running.stage

-- ---- what stands before it, of the device

-- the inode is the entry's, and clean
pub record IsInodeOf (P : ℕ) (entry : NewEntry) (inode : InodeView) (device : DeviceView) : Type 0 where
  pub number : inode.number ≡ entry.inode
  pub least : 1 ≤ entry.inode
  pub most : entry.inode ≤ inodes_of P
  pub clean : InodeIsClean inode device

abbrev pub IsAt : ℕ → NewEntry → Stage → DeviceView → Type 0
IsAt P entry Begun device = IsReady P device.words entry
IsAt P entry (Written node) device = IsInodeOf P entry node.inode device × IsPlaceAt P entry.directory entry.slot entry.new_page node.place device
IsAt P entry (Claimed node) device = IsInodeOf P entry node.inode device × IsSlotAt P entry.slot node.slot device

-- ---- and of the volume

-- the inode and the page are taken
pub record AreTaken (volume : VolumeView) (entry : NewEntry) : Type 0 where
  pub inode : IsTaken volume.inodes (entry.inode - 1)
  pub page : HasTakenPage volume entry.new_page

-- the entry's inode and page are free until they are written, and then taken
abbrev pub HasNumbers : VolumeView → NewEntry → Stage → Type 0
HasNumbers volume entry Begun = IsFree volume.inodes (entry.inode - 1) × MayTakePages volume (pages_of_option entry.new_page)
HasNumbers volume entry (Written node) = AreTaken volume entry
HasNumbers volume entry (Claimed node) = AreTaken volume entry

-- The call may make its next step: its words stand, its events are kept, its name is absent and has its place, and its numbers are held.
pub record StandsStage (volume : VolumeView) (device : DeviceView) (running : RunningView) : Type 0 where
  pub going : volume.stopped ≡ false
  pub whole : length device.words ≡ 512 * volume.size
  pub words : IsAt volume.size running.entry running.stage device
  pub kept : HasKept volume device (events_in (left_of volume.size running))
  pub name : MayPutName volume running.entry.directory running.entry.name
  pub place : HasNamePlace volume running.entry.directory running.entry.new_page
  pub numbers : HasNumbers volume running.entry running.stage

abbrev pub StandsNext : VolumeView → DeviceView → Next RunningView → Type 0
StandsNext volume device (More running) = StandsStage volume device running
StandsNext volume device (Ended reply) = Unit {0}

-- The plan makes an entry, the volume has no mark, and once the plan's events are kept, its first stage stands.
abbrev pub MayBegin : VolumeView → DeviceView → Action → Type 0
MayBegin volume device plan = (entry : NewEntry) × (plan ≡ Make entry) × (volume.marked ≡ false) × StandsStage (keeping volume plan) device (begun entry)

-- ---- what comes of it

-- the same entry at a later stage
abbrev pub IsAfterPlace : NewEntry → NamePlace Clean → Next RunningView → Type 0
IsAfterPlace entry (Slot slot) next = next ≡ Ended Done
IsAfterPlace entry (Page page) next = (node : NamedNode) × (next ≡ More (record { entry = entry; stage = Claimed node }))

abbrev pub IsAfter : NewEntry → Stage → Next RunningView → Type 0
IsAfter entry Begun next = (node : NewNode) × (next ≡ More (record { entry = entry; stage = Written node }))
IsAfter entry (Written node) next = IsAfterPlace entry node.place next
IsAfter entry (Claimed node) next = next ≡ Ended Done

-- what is left behind the step
abbrev pub IsNext : RunningView → Next RunningView → Type 0
IsNext running next = IsAfter running.entry running.stage next

-- the name with its page is in the index
abbrev pub PutsEntryName : NewEntry → VolumeView → VolumeView → Type 0
PutsEntryName entry old new = PutsName old new entry.directory entry.name entry.slot entry.new_page

abbrev pub EntersAfterPlace : NewEntry → NamePlace Clean → VolumeView → VolumeView → Type 0
EntersAfterPlace entry (Slot slot) old new = PutsEntryName entry old new
EntersAfterPlace entry (Page page) old new = new ≡ old

-- what the volume takes in behind the step: the numbers behind the first, and the name behind the one that commits
abbrev pub EntersAtStage : NewEntry → Stage → VolumeView → VolumeView → Type 0
EntersAtStage entry Begun old new = (taken : VolumeView) × TakesPages old taken (pages_of_option entry.new_page) × EntersInode taken new entry.inode
EntersAtStage entry (Written node) old new = EntersAfterPlace entry node.place old new
EntersAtStage entry (Claimed node) old new = PutsEntryName entry old new

abbrev pub EntersAt : RunningView → VolumeView → VolumeView → Type 0
EntersAt running old new = EntersAtStage running.entry running.stage old new

-- what it holds: until its commit its new inode, and its new page
abbrev pub held_of : RunningView → Held
held_of running = record { inodes = 1; pages = count_of running.entry.new_page }

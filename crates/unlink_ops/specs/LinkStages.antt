-- One more name for a file, between two steps of its call: what stands then of the device and of the volume as they are, and what the next step
-- makes. P is the number of pages.
use Rattle.std.specs.Prelude.{◌≡◌, ℕ, ◌*◌, ◌≤◌, false, List, [], ◌∷◌, length}
use Rattle.pm_trait.specs.DeviceView.{DeviceView}
use Rattle.pm_trait.specs.Unfolds.{Step, events_in}
use Rattle.layout.specs.Geometry.{inodes_of}
use Rattle.fence_token.specs.declared.states.Clean.{Clean}
use Rattle.tree_model.specs.declared.reply.Reply.TheVariants.{Done}
use Rattle.inode_state.specs.Inode.{InodeView, InodeIsClean}
use Rattle.volume.specs.Volume.{VolumeView}
use Rattle.volume.specs.Costs.{count_of}
use Rattle.volume.specs.Entered.{pages_of_option, HasNamePlace, MayTakePages, MayPutName, TakesPages, PutsName}
use Rattle.volume.specs.Stages.{HasKept, keeping}
use Rattle.volume.specs.declared.next.Held.{Held}
use Rattle.volume.specs.declared.next.Next.{Next}
use Rattle.volume.specs.declared.next.Next.TheVariants.{More, Ended}
use Rattle.volume.specs.declared.plan.NewName.{NewName}
use Rattle.volume.specs.declared.plan.Action.{Action}
use Rattle.volume.specs.declared.plan.Action.TheVariants.{Name}
use Rattle.entry_steps.specs.declared.place.NamePlace.{NamePlace}
use Rattle.entry_steps.specs.declared.place.NamePlace.TheVariants.{Slot, Page}
use Rattle.entry_steps.specs.Steps.{naming}
use Rattle.entry_steps.specs.Waiting.{IsSlotAt, IsPlaceAt, HasTakenPage, left_of_place, step_of_place}
use Rattle.unlink_ops.specs.declared.link.NamedFile.{NamedFile}
use Rattle.unlink_ops.specs.declared.link.NamedSlot.{NamedSlot}
use Rattle.unlink_ops.specs.declared.link.Stage.{Stage}
use Rattle.unlink_ops.specs.declared.link.Stage.TheVariants.{Begun, Written, Claimed}
use Rattle.unlink_ops.specs.Linking.{IsReady, writing, linking_steps}

-- the name that is given, and what of it is settled
pub record RunningView : Type 0 where
  pub link : NewName
  pub stage : Stage

abbrev pub begun : NewName → RunningView
begun link = record { link = link; stage = Begun }

-- with a name that waits for its page's owner, and with one that waits for its number
abbrev pub waiting : NewName → InodeView → ℕ → RunningView
waiting link inode page = record { link = link; stage = Written (record { inode = inode; place = Page page }) }

abbrev pub named : NewName → NamedSlot → RunningView
named link file = record { link = link; stage = Claimed file }

-- ---- the steps that are left

abbrev pub left_at : ℕ → NewName → Stage → List Step
left_at P link Begun = linking_steps P link
left_at P link (Written file) = left_of_place P link.directory link.slot link.inode file.place
left_at P link (Claimed file) = naming P link.slot link.inode ∷ []

abbrev pub left_of : ℕ → RunningView → List Step
left_of P running = left_at P running.link running.stage

-- and the first of them
abbrev pub step_at : ℕ → NewName → Stage → Step
step_at P link Begun = writing P link
step_at P link (Written file) = step_of_place P link.directory link.slot link.inode file.place
step_at P link (Claimed file) = naming P link.slot link.inode

abbrev pub step_of : ℕ → RunningView → Step
step_of P running = step_at P running.link running.stage

-- ---- what stands before it, of the device

-- the inode is the link's, and clean
pub record IsInodeOf (P : ℕ) (link : NewName) (inode : InodeView) (device : DeviceView) : Type 0 where
  pub number : inode.number ≡ link.inode
  pub least : 1 ≤ link.inode
  pub most : link.inode ≤ inodes_of P
  pub clean : InodeIsClean inode device

abbrev pub IsAt : ℕ → NewName → Stage → DeviceView → Type 0
IsAt P link Begun device = IsReady P device.words link
IsAt P link (Written file) device = IsInodeOf P link file.inode device × IsPlaceAt P link.directory link.slot link.new_page file.place device
IsAt P link (Claimed file) device = IsInodeOf P link file.inode device × IsSlotAt P link.slot file.slot device

-- ---- and of the volume

-- the new page, where there is one, is free until it is written, and then taken
abbrev pub HasNumbers : VolumeView → NewName → Stage → Type 0
HasNumbers volume link Begun = MayTakePages volume (pages_of_option link.new_page)
HasNumbers volume link (Written file) = HasTakenPage volume link.new_page
HasNumbers volume link (Claimed file) = HasTakenPage volume link.new_page

-- The call may make its next step: its words stand, its events are kept, its name is absent and has its place, and its page is held.
pub record StandsStage (volume : VolumeView) (device : DeviceView) (running : RunningView) : Type 0 where
  pub going : volume.stopped ≡ false
  pub whole : length device.words ≡ 512 * volume.size
  pub words : IsAt volume.size running.link running.stage device
  pub kept : HasKept volume device (events_in (left_of volume.size running))
  pub name : MayPutName volume running.link.directory running.link.name
  pub place : HasNamePlace volume running.link.directory running.link.new_page
  pub numbers : HasNumbers volume running.link running.stage

abbrev pub StandsNext : VolumeView → DeviceView → Next RunningView → Type 0
StandsNext volume device (More running) = StandsStage volume device running
StandsNext volume device (Ended reply) = Unit {0}

-- The plan names a file, the volume has no mark, and once the plan's events are kept, its first stage stands.
abbrev pub MayBegin : VolumeView → DeviceView → Action → Type 0
MayBegin volume device plan = (link : NewName) × (plan ≡ Name link) × (volume.marked ≡ false) × StandsStage (keeping volume plan) device (begun link)

-- ---- what comes of it

-- the same link at a later stage
abbrev pub IsAfterPlace : NewName → NamePlace Clean → Next RunningView → Type 0
IsAfterPlace link (Slot slot) next = next ≡ Ended Done
IsAfterPlace link (Page page) next = (file : NamedSlot) × (next ≡ More (record { link = link; stage = Claimed file }))

abbrev pub IsAfter : NewName → Stage → Next RunningView → Type 0
IsAfter link Begun next = (file : NamedFile) × (next ≡ More (record { link = link; stage = Written file }))
IsAfter link (Written file) next = IsAfterPlace link file.place next
IsAfter link (Claimed file) next = next ≡ Ended Done

-- what is left behind the step
abbrev pub IsNext : RunningView → Next RunningView → Type 0
IsNext running next = IsAfter running.link running.stage next

-- the name with its page is in the index
abbrev pub PutsEntryName : NewName → VolumeView → VolumeView → Type 0
PutsEntryName link old new = PutsName old new link.directory link.name link.slot link.new_page

abbrev pub EntersAfterPlace : NewName → NamePlace Clean → VolumeView → VolumeView → Type 0
EntersAfterPlace link (Slot slot) old new = PutsEntryName link old new
EntersAfterPlace link (Page page) old new = new ≡ old

-- what the volume takes in behind the step: the page's number behind the first, and the name behind the one that commits
abbrev pub EntersAtStage : NewName → Stage → VolumeView → VolumeView → Type 0
EntersAtStage link Begun old new = TakesPages old new (pages_of_option link.new_page)
EntersAtStage link (Written file) old new = EntersAfterPlace link file.place old new
EntersAtStage link (Claimed file) old new = PutsEntryName link old new

abbrev pub EntersAt : RunningView → VolumeView → VolumeView → Type 0
EntersAt running old new = EntersAtStage running.link running.stage old new

-- what it holds: until its commit its new page
abbrev pub held_of : RunningView → Held
held_of running = record { inodes = 0; pages = count_of running.link.new_page }

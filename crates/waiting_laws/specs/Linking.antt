-- One more name for a file, whose call waits between two of its steps, beside other calls. P is the number of pages, I the words.
use Rattle.std.specs.Prelude.{◌≡◌, ℕ, ◌+◌, true, List, [], ◌∷◌, Some}
use Rattle.pm_trait.specs.DeviceView.{DeviceView}
use Rattle.pm_trait.specs.Unfolds.{events_in}
use Rattle.layout.specs.Geometry.{page_of_slot}
use Rattle.layout.specs.Fields.{inode_links}
use Rattle.tree_model.specs.PathText.{Route}
use Rattle.tree_model.specs.Tree.{Tree, last_name, id_at, is_file, link_count}
use Rattle.tree_model.specs.Run.{State}
use Rattle.tree_model.specs.declared.command.Command.TheVariants.{Link}
use Rattle.tree_model.specs.declared.reply.Reply.TheVariants.{Done}
use Rattle.image_reading.specs.Residue.{Residue, no_residue}
use Rattle.weave_laws.specs.Naming.{link_left, IsWrittenPlace}
use Rattle.weave_laws.specs.Waiting.{IsWaitingName, TakesPageIfFull}
use Rattle.volume.specs.Volume.{VolumeView}
use Rattle.volume.specs.Stages.{HasKept, keeping}
use Rattle.volume.specs.declared.next.Next.TheVariants.{More, Ended}
use Rattle.volume.specs.declared.plan.NewName.{NewName}
use Rattle.volume.specs.declared.plan.Action.TheVariants.{Name}
use Rattle.unlink_ops.specs.declared.link.Stage.{Stage}
use Rattle.unlink_ops.specs.declared.link.Stage.TheVariants.{Begun, Written, Claimed}
use Rattle.unlink_ops.specs.LinkStages.{RunningView, begun, left_of, step_of, IsAt, IsNext, EntersAt, StandsStage, MayBegin}
use Rattle.waiting_laws.specs.Beside.{Holding, Holds, IsReady, StandsWith, MakesStep, Leaves, Commits, PassesBy}
use Rattle.waiting_laws.specs.Naming.{IsNameIn, KnowsPlace}

-- ---- what it holds, and what it has left

-- the slot of its name and the page that this is in, its file and its directory
abbrev pub held_by : NewName → Holding
held_by link = record { slots = link.slot ∷ []; pages = page_of_slot link.slot ∷ []; inodes = link.inode ∷ link.directory ∷ [] }

-- its slot, or its new page in place of that; and the links of the file
abbrev pub left_by : NewName → Residue
left_by link = link_left link.slot link.new_page link.inode

-- ---- where it waits

-- its name is written (a call that has stored nothing doesn't wait)
abbrev pub HasWrittenName : ℕ → List ℕ → Tree → Route → NewName → Stage → Type 0
HasWrittenName P I T path link Begun = ⊥
HasWrittenName P I T path link (Written file) = IsNameIn P I T path link.directory link.slot file.place
HasWrittenName P I T path link (Claimed file) = IsWaitingName P I T path link.directory link.slot

pub record WaitsToLink (volume : VolumeView) (device : DeviceView) (state : State) (from path : Route) (running : RunningView) (others : Residue) : Type 0 where
  pub beside : StandsWith volume device state (left_by running.link) others
  pub words : IsAt volume.size running.link running.stage device
  pub file_is : id_at state.tree from ≡ Some running.link.inode
  pub name_is : running.link.name ≡ last_name path
  pub name : HasWrittenName volume.size device.words state.tree path running.link running.stage
  pub place : IsWrittenPlace volume.size device.words running.link.slot running.link.new_page
  pub full : TakesPageIfFull state running.link.directory running.link.new_page
  pub file : is_file state.tree running.link.inode ≡ true
  pub links : inode_links device.words running.link.inode ≡ link_count state.tree running.link.inode + 1
  pub knows : KnowsPlace volume running.link.directory running.link.new_page

-- ---- what a step leaves that doesn't commit it

pub record WaitsOn (old new : VolumeView) (before after : DeviceView) (state : State) (from path : Route) (next : RunningView) (others : Residue) : Type 0 where
  pub waits : WaitsToLink new after state from path next others
  pub leaves : Leaves old new before after state (left_by next.link) others (held_by next.link)

-- ---- it begins

abbrev pub LinkingBeginsLaw : Type 0
LinkingBeginsLaw = (volume : VolumeView) (device : DeviceView) (state : State) (from path : Route) (link : NewName) (others : Residue) → IsReady volume device state (Link from path) (Name link) others
    → MayBegin volume device (Name link)

-- Behind its first step it waits.
abbrev pub LinkingWrittenLaw : Type 0
LinkingWrittenLaw = (volume new : VolumeView) (before after : DeviceView) (state : State) (from path : Route) (link : NewName) (next : RunningView) (others : Residue)
    → IsReady volume before state (Link from path) (Name link) others → MakesStep (step_of volume.size (begun link)) (EntersAt (begun link)) (keeping volume (Name link)) new before after
    → IsNext (begun link) (More next) → StandsStage new after next → WaitsOn volume new before after state from path next others

-- ---- while it waits

-- What it has left lies in what it holds.
abbrev pub LinkingHoldsLaw : Type 0
LinkingHoldsLaw = (volume : VolumeView) (device : DeviceView) (state : State) (from path : Route) (running : RunningView) (others : Residue) → WaitsToLink volume device state from path running others
    → Holds volume device.words (left_by running.link) (held_by running.link)

-- It waits still when another call has made a step,
abbrev pub LinkingStillLaw : Type 0
LinkingStillLaw = (old new : VolumeView) (before after : DeviceView) (state later : State) (from path : Route) (running : RunningView) (others now : Residue) → WaitsToLink old before state from path running others
    → PassesBy old new before after state later (held_by running.link) → StandsWith new after later (left_by running.link) now
    → WaitsToLink new after later from path running now

-- and may make its next step, where its events are kept.
abbrev pub LinkingStandsLaw : Type 0
LinkingStandsLaw = (volume : VolumeView) (device : DeviceView) (state : State) (from path : Route) (running : RunningView) (others : Residue) → WaitsToLink volume device state from path running others
    → HasKept volume device (events_in (left_of volume.size running)) → StandsStage volume device running

-- ---- it goes on

-- Behind a step that doesn't commit it waits again.
abbrev pub LinkingClaimedLaw : Type 0
LinkingClaimedLaw = (old new : VolumeView) (before after : DeviceView) (state : State) (from path : Route) (running next : RunningView) (others : Residue) → WaitsToLink old before state from path running others
    → MakesStep (step_of old.size running) (EntersAt running) old new before after → IsNext running (More next) → StandsStage new after next → WaitsOn old new before after state from path next others

-- The step that commits it is its last.
abbrev pub LinkingEndsLaw : Type 0
LinkingEndsLaw = (old new : VolumeView) (before after : DeviceView) (state : State) (from path : Route) (running : RunningView) (others : Residue) → WaitsToLink old before state from path running others
    → MakesStep (step_of old.size running) (EntersAt running) old new before after → IsNext running (Ended Done)
    → (commits : Commits old.size before.words after.words state (Link from path) running.link.inode)
    × Leaves old new before after commits.stepped.new no_residue others (held_by running.link)

-- The making of an entry that waits between two of its steps, beside other calls. P is the number of pages, I the words.
use Rattle.std.specs.Prelude.{◌≡◌, ℕ, List, [], ◌∷◌}
use Rattle.pm_trait.specs.DeviceView.{DeviceView}
use Rattle.pm_trait.specs.Unfolds.{events_in}
use Rattle.layout.specs.Geometry.{page_of_slot}
use Rattle.tree_model.specs.PathText.{Route}
use Rattle.tree_model.specs.Tree.{Tree, last_name}
use Rattle.tree_model.specs.Run.{State}
use Rattle.tree_model.specs.Step.{making as of_kind}
use Rattle.tree_model.specs.declared.reply.Reply.TheVariants.{Done}
use Rattle.image_reading.specs.Residue.{Residue, no_residue}
use Rattle.weave_laws.specs.Naming.{node_left, IsWrittenPlace}
use Rattle.weave_laws.specs.Waiting.{HasNoPageOf, IsWaitingName, TakesPageIfFull, HasNodeWords, HasRaisedLinks}
use Rattle.volume.specs.Volume.{VolumeView}
use Rattle.volume.specs.Stages.{HasKept, keeping}
use Rattle.volume.specs.declared.next.Next.TheVariants.{More, Ended}
use Rattle.volume.specs.declared.plan.NewEntry.{NewEntry}
use Rattle.volume.specs.declared.plan.Action.TheVariants.{Make}
use Rattle.create_ops.specs.declared.run.Stage.{Stage}
use Rattle.create_ops.specs.declared.run.Stage.TheVariants.{Begun, Written, Claimed}
use Rattle.create_ops.specs.Stages.{RunningView, begun, left_of, step_of, IsAt, IsNext, EntersAt, StandsStage, MayBegin}
use Rattle.waiting_laws.specs.Beside.{Holding, Holds, IsReady, StandsWith, MakesStep, Leaves, Commits, PassesBy}
use Rattle.waiting_laws.specs.Naming.{IsNameIn, KnowsPlace}

-- ---- what it holds, and what it has left

-- the slot of its name and the page that this is in, its inode and its directory
abbrev pub held_by : NewEntry → Holding
held_by entry = record { slots = entry.slot ∷ []; pages = page_of_slot entry.slot ∷ []; inodes = entry.inode ∷ entry.directory ∷ [] }

-- its slot, or its new page in place of that; its inode; and the links of the directory that a directory is made in
abbrev pub left_by : NewEntry → Residue
left_by entry = node_left entry.kind entry.directory entry.slot entry.new_page entry.inode

-- ---- where it waits

-- its name is written (a call that has stored nothing doesn't wait)
abbrev pub HasWrittenName : ℕ → List ℕ → Tree → Route → NewEntry → Stage → Type 0
HasWrittenName P I T path entry Begun = ⊥
HasWrittenName P I T path entry (Written node) = IsNameIn P I T path entry.directory entry.slot node.place
HasWrittenName P I T path entry (Claimed node) = IsWaitingName P I T path entry.directory entry.slot

pub record WaitsToMake (volume : VolumeView) (device : DeviceView) (state : State) (path : Route) (running : RunningView) (others : Residue) : Type 0 where
  pub beside : StandsWith volume device state (left_by running.entry) others
  pub words : IsAt volume.size running.entry running.stage device
  pub name_is : running.entry.name ≡ last_name path
  pub name : HasWrittenName volume.size device.words state.tree path running.entry running.stage
  pub place : IsWrittenPlace volume.size device.words running.entry.slot running.entry.new_page
  pub full : TakesPageIfFull state running.entry.directory running.entry.new_page
  pub node : HasNodeWords device.words running.entry.kind running.entry.inode
  pub links : HasRaisedLinks device.words state.tree running.entry.kind running.entry.directory
  pub alone : HasNoPageOf volume.size device.words others running.entry.inode
  pub knows : KnowsPlace volume running.entry.directory running.entry.new_page

-- ---- what a step leaves that doesn't commit it

pub record WaitsOn (old new : VolumeView) (before after : DeviceView) (state : State) (path : Route) (next : RunningView) (others : Residue) : Type 0 where
  pub waits : WaitsToMake new after state path next others
  pub leaves : Leaves old new before after state (left_by next.entry) others (held_by next.entry)

-- ---- it begins

abbrev pub MakingBeginsLaw : Type 0
MakingBeginsLaw = (volume : VolumeView) (device : DeviceView) (state : State) (path : Route) (entry : NewEntry) (others : Residue) → IsReady volume device state (of_kind entry.kind path) (Make entry) others
    → MayBegin volume device (Make entry)

-- Behind its first step it waits.
abbrev pub MakingWrittenLaw : Type 0
MakingWrittenLaw = (volume new : VolumeView) (before after : DeviceView) (state : State) (path : Route) (entry : NewEntry) (next : RunningView) (others : Residue)
    → IsReady volume before state (of_kind entry.kind path) (Make entry) others → MakesStep (step_of volume.size (begun entry)) (EntersAt (begun entry)) (keeping volume (Make entry)) new before after
    → IsNext (begun entry) (More next) → StandsStage new after next → WaitsOn volume new before after state path next others

-- ---- while it waits

-- What it has left lies in what it holds.
abbrev pub MakingHoldsLaw : Type 0
MakingHoldsLaw = (volume : VolumeView) (device : DeviceView) (state : State) (path : Route) (running : RunningView) (others : Residue) → WaitsToMake volume device state path running others
    → Holds volume device.words (left_by running.entry) (held_by running.entry)

-- It waits still when another call has made a step,
abbrev pub MakingStillLaw : Type 0
MakingStillLaw = (old new : VolumeView) (before after : DeviceView) (state later : State) (path : Route) (running : RunningView) (others now : Residue) → WaitsToMake old before state path running others
    → PassesBy old new before after state later (held_by running.entry) → StandsWith new after later (left_by running.entry) now → HasNoPageOf new.size after.words now running.entry.inode
    → WaitsToMake new after later path running now

-- and may make its next step, where its events are kept.
abbrev pub MakingStandsLaw : Type 0
MakingStandsLaw = (volume : VolumeView) (device : DeviceView) (state : State) (path : Route) (running : RunningView) (others : Residue) → WaitsToMake volume device state path running others
    → HasKept volume device (events_in (left_of volume.size running)) → StandsStage volume device running

-- ---- it goes on

-- Behind a step that doesn't commit it waits again.
abbrev pub MakingClaimedLaw : Type 0
MakingClaimedLaw = (old new : VolumeView) (before after : DeviceView) (state : State) (path : Route) (running next : RunningView) (others : Residue) → WaitsToMake old before state path running others
    → MakesStep (step_of old.size running) (EntersAt running) old new before after → IsNext running (More next) → StandsStage new after next → WaitsOn old new before after state path next others

-- The step that commits it is its last.
abbrev pub MakingEndsLaw : Type 0
MakingEndsLaw = (old new : VolumeView) (before after : DeviceView) (state : State) (path : Route) (running : RunningView) (others : Residue) → WaitsToMake old before state path running others
    → MakesStep (step_of old.size running) (EntersAt running) old new before after → IsNext running (Ended Done)
    → (commits : Commits old.size before.words after.words state (of_kind running.entry.kind path) running.entry.inode)
    × Leaves old new before after commits.stepped.new no_residue others (held_by running.entry)

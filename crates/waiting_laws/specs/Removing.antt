-- The taking away of a name that waits between two of its steps, beside other calls. P is the number of pages, I the words.
use Rattle.std.specs.Prelude.{◌≡◌, ◌⊎◌, ℕ, ◌<◌, true, false, if◌then◌else◌, List, [], ◌∷◌, ◌++◌, Option, Some, None}
use Rattle.pm_trait.specs.DeviceView.{DeviceView}
use Rattle.pm_trait.specs.Unfolds.{events_in}
use Rattle.layout.specs.Geometry.{slots_of, page_of_slot}
use Rattle.layout.specs.declared.kinds.NodeKind.{NodeKind}
use Rattle.layout.specs.declared.kinds.NodeKind.TheVariants.{File, Directory}
use Rattle.tree_model.specs.PathText.{Route}
use Rattle.tree_model.specs.Tree.{is_directory, is_file}
use Rattle.tree_model.specs.Run.{State}
use Rattle.tree_model.specs.declared.command.Command.{Command}
use Rattle.tree_model.specs.declared.command.Command.TheVariants.{Unlink, Rmdir}
use Rattle.tree_model.specs.declared.reply.Reply.TheVariants.{Done}
use Rattle.image_reading.specs.Reading.{slot_owner}
use Rattle.image_reading.specs.Residue.{Residue, no_residue}
use Rattle.weave_laws.specs.Naming.{pages_left}
use Rattle.weave_laws.specs.Removing.{unnamed_left, cleared_left}
use Rattle.weave_laws.specs.Waiting.{HasNoPageOf, HasFallingLinks}
use Rattle.knowing_laws.specs.Knowing.{AreListedAt}
use Rattle.volume.specs.Volume.{VolumeView}
use Rattle.volume.specs.Stages.{HasKept, keeping}
use Rattle.volume.specs.declared.next.Next.TheVariants.{More, Ended}
use Rattle.volume.specs.declared.plan.Removal.{Removal}
use Rattle.volume.specs.declared.plan.Action.TheVariants.{Remove}
use Rattle.unlink_ops.specs.declared.removal.Stage.{Stage}
use Rattle.unlink_ops.specs.declared.removal.Stage.TheVariants.{Begun, Unnamed, Cleared, Disowned}
use Rattle.unlink_ops.specs.RemovalStages.{RunningView, begun, pages_gone, left_of, step_of, IsAt, HasLosses, next_of, EntersAt, StandsStage, MayBegin}
use Rattle.waiting_laws.specs.Beside.{Holding, Holds, IsReady, StandsWith, MakesStep, NamesNothing, Leaves, Commits, PassesBy}

-- the command that takes a node of this kind away
abbrev pub of_kind : NodeKind → Route → Command
of_kind File path = Unlink path
of_kind Directory path = Rmdir path

-- ---- what it holds, and what it has left

-- the slot of the name and its page, the node with its pages where it goes, and the directory
abbrev pub held_by : VolumeView → Removal → Holding
held_by volume removal = record {
  slots = removal.slot ∷ [];
  pages = page_of_slot removal.slot ∷ pages_gone volume removal;
  inodes = removal.loss.inode ∷ removal.directory ∷ [];
}

-- what has a link less and stays: a file with another name, or the directory that a directory goes from
abbrev pub falling_of : NodeKind → Removal → Option ℕ
falling_of File removal = if removal.loss.goes then None else Some removal.loss.inode
falling_of Directory removal = Some removal.directory

-- Behind the commit the slot, or its page where no name is left in it, the node with its pages where it goes, and the link; and then the pages
-- and the node.
abbrev pub left_at : VolumeView → Removal → Stage → Residue
left_at volume removal Begun = no_residue
left_at volume removal Unnamed =
    unnamed_left removal.slot removal.given_back (pages_gone volume removal) removal.loss.goes removal.loss.inode (falling_of removal.loss.kind removal)
left_at volume removal Cleared = cleared_left (pages_gone volume removal ++ pages_left removal.given_back) removal.loss.goes removal.loss.inode
left_at volume removal Disowned = cleared_left (pages_gone volume removal ++ pages_left removal.given_back) removal.loss.goes removal.loss.inode

abbrev pub left_by : VolumeView → RunningView → Residue
left_by volume running = left_at volume running.removal running.stage

-- ---- where it waits

-- the link falls in the next step (a call that has stored nothing doesn't wait)
abbrev pub HasFalling : List ℕ → State → Removal → Stage → Type 0
HasFalling I state removal Begun = ⊥
HasFalling I state removal Unnamed = HasFallingLinks I state.tree (falling_of removal.loss.kind removal)
HasFalling I state removal Cleared = Unit {0}
HasFalling I state removal Disowned = Unit {0}

-- the slot's page is the directory's, unless it is given back
abbrev pub HasItsPage : ℕ → List ℕ → Removal → Option ℕ → Type 0
HasItsPage P I removal None = slot_owner P I removal.slot ≡ removal.directory
HasItsPage P I removal (Some page) = page_of_slot removal.slot ≡ page

-- The slot is one of the volume's, and its page the directory's until it loses its owner.
pub record IsPlaced (P : ℕ) (I : List ℕ) (removal : Removal) : Type 0 where
  pub in_range : removal.slot < slots_of P
  pub owner : (slot_owner P I removal.slot ≡ removal.directory) ⊎ (slot_owner P I removal.slot ≡ 0)

-- Lists have the pages that go at the node alone, and the page that is given back at the directory alone.
pub record AreListed (volume : VolumeView) (removal : Removal) : Type 0 where
  pub node : AreListedAt volume (pages_gone volume removal) removal.loss.inode
  pub directory : AreListedAt volume (pages_left removal.given_back) removal.directory

pub record WaitsToRemove (volume : VolumeView) (device : DeviceView) (state : State) (running : RunningView) (others : Residue) : Type 0 where
  pub beside : StandsWith volume device state (left_by volume running) others
  pub words : IsAt volume.size device.words running.removal (pages_gone volume running.removal) running.stage
  pub losses : HasLosses volume running.removal
  pub falling : HasFalling device.words state running.removal running.stage
  pub page : HasItsPage volume.size device.words running.removal running.removal.given_back
  pub place : IsPlaced volume.size device.words running.removal
  pub stays : running.removal.loss.goes ≡ false → is_file state.tree running.removal.loss.inode ≡ true
  pub parent : is_directory state.tree running.removal.directory ≡ true
  pub listed : AreListed volume running.removal
  pub alone : HasNoPageOf volume.size device.words others running.removal.loss.inode

-- ---- what a step leaves

pub record WaitsOn (old new : VolumeView) (before after : DeviceView) (later : State) (next : RunningView) (others : Residue) : Type 0 where
  pub waits : WaitsToRemove new after later next others
  pub leaves : Leaves old new before after later (left_by new next) others (held_by old next.removal)

-- ---- it begins

abbrev pub RemovingBeginsLaw : Type 0
RemovingBeginsLaw = (volume : VolumeView) (device : DeviceView) (state : State) (path : Route) (removal : Removal) (others : Residue)
    → IsReady volume device state (of_kind removal.loss.kind path) (Remove removal) others → MayBegin volume device (Remove removal)

-- Its first step commits it (no node is new: id n is not read), and behind that it waits.
abbrev pub RemovingCommitsLaw : Type 0
RemovingCommitsLaw = (volume new : VolumeView) (before after : DeviceView) (state : State) (path : Route) (removal : Removal) (next : RunningView) (n : ℕ) (others : Residue)
    → IsReady volume before state (of_kind removal.loss.kind path) (Remove removal) others
    → MakesStep (step_of (keeping volume (Remove removal)) (begun removal)) (EntersAt (begun removal)) (keeping volume (Remove removal)) new before after
    → next_of removal Begun ≡ More next → StandsStage new after next
    → (commits : Commits volume.size before.words after.words state (of_kind removal.loss.kind path) n) × WaitsOn volume new before after commits.stepped.new next others

-- ---- while it waits

-- What it has left lies in what it holds.
abbrev pub RemovingHoldsLaw : Type 0
RemovingHoldsLaw = (volume : VolumeView) (device : DeviceView) (state : State) (running : RunningView) (others : Residue) → WaitsToRemove volume device state running others
    → Holds volume device.words (left_by volume running) (held_by volume running.removal)

-- It waits still when another call has made a step, and has left the same,
abbrev pub RemovingStillLaw : Type 0
RemovingStillLaw = (old new : VolumeView) (before after : DeviceView) (state later : State) (running : RunningView) (others now : Residue) → WaitsToRemove old before state running others
    → PassesBy old new before after state later (held_by old running.removal) → StandsWith new after later (left_by old running) now → HasNoPageOf new.size after.words now running.removal.loss.inode → NamesNothing new.size after.words now
    → WaitsToRemove new after later running now × (left_by new running ≡ left_by old running) × (held_by new running.removal ≡ held_by old running.removal)

-- and may make its next step, where its events are kept.
abbrev pub RemovingStandsLaw : Type 0
RemovingStandsLaw = (volume : VolumeView) (device : DeviceView) (state : State) (running : RunningView) (others : Residue) → WaitsToRemove volume device state running others
    → HasKept volume device (events_in (left_of volume running)) → StandsStage volume device running

-- ---- it goes on

-- Behind each step but the last it waits again.
abbrev pub RemovingStepsLaw : Type 0
RemovingStepsLaw = (old new : VolumeView) (before after : DeviceView) (state : State) (running next : RunningView) (others : Residue) → WaitsToRemove old before state running others
    → MakesStep (step_of old running) (EntersAt running) old new before after → next_of running.removal running.stage ≡ More next → StandsStage new after next
    → WaitsOn old new before after state next others

-- Behind its last step nothing of it is left.
abbrev pub RemovingEndsLaw : Type 0
RemovingEndsLaw = (old new : VolumeView) (before after : DeviceView) (state : State) (running : RunningView) (others : Residue) → WaitsToRemove old before state running others
    → MakesStep (step_of old running) (EntersAt running) old new before after → next_of running.removal running.stage ≡ Ended Done
    → Leaves old new before after state no_residue others (held_by old running.removal)

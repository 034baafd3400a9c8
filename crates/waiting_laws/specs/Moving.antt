-- The move of a name that waits between two of its steps. A rename names every node, so that no other call with a name runs beside it: what
-- stands is said by the words at its begin, which are tidy, and by the steps since. P is the number of pages, I the words.
use Rattle.std.specs.Prelude.{◌≡◌, ℕ, ◌≤◌, false, ◌++◌, Contains}
use Rattle.pm_trait.specs.DeviceView.{DeviceView}
use Rattle.layout.specs.Fields.{page_owner}
use Rattle.layout.specs.Geometry.{inodes_of}
use Rattle.layout.specs.Name.{IsName, IsBytes}
use Rattle.tree_model.specs.PathText.{Route}
use Rattle.tree_model.specs.Run.{State}
use Rattle.tree_model.specs.declared.command.Command.TheVariants.{Rename}
use Rattle.tree_model.specs.declared.reply.Reply.TheVariants.{Done}
use Rattle.image_reading.specs.Counts.{IsIn}
use Rattle.image_reading.specs.Residue.{Residue, no_residue}
use Rattle.weave_laws.specs.Naming.{pages_left}
use Rattle.weave_laws.specs.Removing.{cleared_left}
use Rattle.moving_laws.specs.Moving.{pointed_left, moved_left}
use Rattle.volatile_index.specs.Index.{pages_of}
use Rattle.volume.specs.Volume.{VolumeView}
use Rattle.volume.specs.Beside.{StandsBeside}
use Rattle.volume.specs.Costs.{goes_of}
use Rattle.volume.specs.Entered.{pages_of_option}
use Rattle.volume.specs.Moves.{rising_of, falling_of}
use Rattle.volume.specs.Stages.{keeping}
use Rattle.volume.specs.declared.next.Next.TheVariants.{More, Ended}
use Rattle.volume.specs.declared.plan.Moving.{Moving}
use Rattle.volume.specs.declared.plan.Action.TheVariants.{Move}
use Rattle.removal_steps.specs.Steps.{gone_pages, number_of}
use Rattle.rename_ptr.specs.declared.rename.Progress.{Progress}
use Rattle.rename_ptr.specs.declared.rename.Progress.TheVariants.{Begun, Filled, Opened, Pointed, Moved, Left, Cleared, Disowned}
use Rattle.rename_ptr.specs.declared.rename.Stage.TheVariants.{Moving as Moves}
use Rattle.rename_ptr.specs.Steps.{target_of}
use Rattle.rename_ptr.specs.Stages.{IsPlannedMove, IsAt, KnowsMove, step_of, next_moving, EntersAt, StandsStage, MayBegin}
use Rattle.waiting_laws.specs.Beside.{IsReady, StandsWith, MakesStep, Commits}

-- ---- what it has left

-- what the commit has left: slot and pointer, the page that is given back, a replaced inode that goes, with its pages, and a count that is to fall
abbrev pub moved_by : VolumeView → Moving → Residue
moved_by volume moving =
    moved_left moving.from_slot moving.to_slot moving.given_back (gone_pages volume moving.replaced) (goes_of moving.replaced) (number_of moving.replaced) (falling_of moving)

-- and behind the clearing of the slot the pages, and the inode
abbrev pub given_by : VolumeView → Moving → Residue
given_by volume moving = cleared_left (gone_pages volume moving.replaced ++ pages_left moving.given_back) (goes_of moving.replaced) (number_of moving.replaced)

-- before it the new page; and then the pointer, with what waits for its number and a count that rose
abbrev pub left_by : VolumeView → Moving → Progress → Residue
left_by volume moving Begun = no_residue
left_by volume moving Filled = record no_residue { pages = pages_of_option moving.new_page }
left_by volume moving Opened = record no_residue { pages = pages_of_option moving.new_page }
left_by volume moving Pointed = pointed_left moving.to_slot (target_of moving) (rising_of moving)
left_by volume moving Moved = moved_by volume moving
left_by volume moving Left = moved_by volume moving
left_by volume moving Cleared = given_by volume moving
left_by volume moving Disowned = given_by volume moving

-- ---- where it waits

-- The volume goes on and has no mark, and stands for the state beside what the move has left. The words at its begin read as the state `start`,
-- and there the move is that of an accepted rename of these paths; its steps made the words as they are from those. The new name is one, and of
-- bytes. No inode but its owner at the begin lists a page that is left.
pub record WaitsToMove (volume : VolumeView) (device : DeviceView) (state : State) (from to : Route) (moving : Moving) (progress : Progress) : Type 0 where
  pub stands : StandsBeside volume device state (left_by volume moving progress)
  pub going : volume.stopped ≡ false
  pub unmarked : volume.marked ≡ false
  pub at : IsAt volume.size device.words moving (gone_pages volume moving.replaced) progress
  pub knows : KnowsMove volume moving progress
  pub start : State
  pub planned : IsPlannedMove volume.size at.first start from to moving
  pub named : IsName moving.to_name × IsBytes moving.to_name
  pub listed : (i j : ℕ) → 1 ≤ i → i ≤ inodes_of volume.size → IsIn j (left_by volume moving progress).pages → Contains (pages_of volume.index i) j → page_owner volume.size at.first j ≡ i

-- ---- it begins

abbrev pub MovingBeginsLaw : Type 0
MovingBeginsLaw = (volume : VolumeView) (device : DeviceView) (state : State) (from to : Route) (moving : Moving) → IsReady volume device state (Rename from to) (Move moving) no_residue
    → MayBegin volume device (Move moving)

-- It waits from its begin on, since nothing else runs. (That the new name is one is the type's of the plan.)
abbrev pub MovingStartsLaw : Type 0
MovingStartsLaw = (volume : VolumeView) (device : DeviceView) (state : State) (from to : Route) (moving : Moving) → IsReady volume device state (Rename from to) (Move moving) no_residue
    → IsName moving.to_name × IsBytes moving.to_name → WaitsToMove (keeping volume (Move moving)) device state from to moving Begun

-- ---- it goes on

-- a step that commits nothing and isn't the last: all but the one that gives the new slot its number
abbrev pub MovingStepsLaw : Type 0
MovingStepsLaw = (old new : VolumeView) (before after : DeviceView) (state : State) (from to : Route) (moving : Moving) (progress next : Progress) → WaitsToMove old before state from to moving progress
    → (progress ≡ Pointed → ⊥) → MakesStep (step_of old (Moves moving progress)) (EntersAt (Moves moving progress)) old new before after
    → next_moving moving progress ≡ More (Moves moving next) → StandsStage new after (Moves moving next)
    → WaitsToMove new after state from to moving next

-- the commit (no node is new: id n is not read)
abbrev pub MovingCommitsLaw : Type 0
MovingCommitsLaw = (old new : VolumeView) (before after : DeviceView) (state : State) (from to : Route) (moving : Moving) (n : ℕ) → WaitsToMove old before state from to moving Pointed
    → MakesStep (step_of old (Moves moving Pointed)) (EntersAt (Moves moving Pointed)) old new before after → StandsStage new after (Moves moving Moved)
    → (commits : Commits old.size before.words after.words state (Rename from to) n) × WaitsToMove new after commits.stepped.new from to moving Moved

-- Behind its last step nothing is left.
abbrev pub MovingEndsLaw : Type 0
MovingEndsLaw = (old new : VolumeView) (before after : DeviceView) (state : State) (from to : Route) (moving : Moving) (progress : Progress) → WaitsToMove old before state from to moving progress
    → MakesStep (step_of old (Moves moving progress)) (EntersAt (Moves moving progress)) old new before after → next_moving moving progress ≡ Ended Done
    → StandsWith new after state no_residue no_residue

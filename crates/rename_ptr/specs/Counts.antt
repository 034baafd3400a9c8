-- What is left of a move, and what its next step costs, by its plan alone: its steps with a store, and their events.
use Rattle.std.specs.Prelude.{ℕ, ◌+◌, ◌*◌, ◌≤◌, is_some, if◌then◌else◌}
use Rattle.layout.specs.Geometry.{most_data_pages}
use Rattle.volume.specs.Costs.{count_of, goes_of, pages_of_loss, pages_replaced, fences_for_page, fences_for_loss, word_events, page_events, fence_events, commit_events, clearing_events, pointing_events}
use Rattle.volume.specs.Moves.{rising_of, falling_of}
use Rattle.volume.specs.declared.plan.Moving.{Moving}
use Rattle.removal_steps.specs.Steps.{cut_events, rest_events}
use Rattle.rename_ptr.specs.declared.rename.Progress.{Progress}
use Rattle.rename_ptr.specs.declared.rename.Progress.TheVariants.{Begun, Filled, Opened, Pointed, Moved, Left, Cleared, Disowned}
use Rattle.rename_ptr.specs.declared.rename.Stage.{Stage}
use Rattle.rename_ptr.specs.declared.rename.Stage.TheVariants.{Nothing, Moving as Moves}

-- the pages that go with a replaced node are no more than a volume has
abbrev pub IsBoundedStage : Stage → Type 0
IsBoundedStage Nothing = Unit {0}
IsBoundedStage (Moves moving progress) = pages_of_loss moving.replaced ≤ most_data_pages

-- those of the two steps that give back what goes
abbrev pub losing_fences : Moving → ℕ
losing_fences moving = fences_for_loss (pages_replaced moving) (goes_of moving.replaced)

abbrev pub fences_at : Moving → Progress → ℕ
fences_at moving Begun = fences_for_page moving.new_page + 4 + losing_fences moving
fences_at moving Filled = 5 + losing_fences moving
fences_at moving Opened = 4 + losing_fences moving
fences_at moving Pointed = 3 + losing_fences moving
fences_at moving Moved = 2 + losing_fences moving
fences_at moving Left = 1 + losing_fences moving
fences_at moving Cleared = 2
fences_at moving Disowned = 1

abbrev pub pointing_cost : Moving → ℕ
pointing_cost moving = pointing_events moving + count_of (rising_of moving) * word_events + fence_events

-- the new page is filled, where there is one
abbrev pub first_cost : Moving → ℕ
first_cost moving = if is_some moving.new_page then page_events + fence_events else pointing_cost moving

abbrev pub events_at : Moving → Progress → ℕ
events_at moving Begun = first_cost moving
events_at moving Filled = commit_events
events_at moving Opened = pointing_cost moving
events_at moving Pointed = commit_events
events_at moving Moved = commit_events
events_at moving Left = word_events + clearing_events (count_of (falling_of moving))
events_at moving Cleared = cut_events (pages_replaced moving)
events_at moving Disowned = rest_events (pages_replaced moving) (goes_of moving.replaced)

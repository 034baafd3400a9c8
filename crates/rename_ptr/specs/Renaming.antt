-- A name that moves: what its words are, from the plan to the end. P is the number of pages.
use Rattle.std.specs.Prelude.{ℕ, List, Result, OnOk}
use Rattle.pm_trait.specs.DeviceView.{DeviceView}
use Rattle.pm_trait.specs.Unfolds.{Unfolds}
use Rattle.layout.specs.Geometry.{slot_word_of}
use Rattle.layout.specs.Name.{IsName, IsBytes}
use Rattle.tree_model.specs.PathText.{Route}
use Rattle.tree_model.specs.Run.{State}
use Rattle.tree_model.specs.declared.command.Command.TheVariants.{Rename}
use Rattle.image_reading.specs.Reading.{ReadsAs}
use Rattle.image_reading.specs.Tidy.{Tidy}
use Rattle.rename_laws.specs.Ready.{IsTargetOpened, PointsAt}
use Rattle.rename_laws.specs.Intervals.{Finishes}
use Rattle.volume.specs.Commit.{HangsOn}
use Rattle.volume.specs.Moves.{rising_of, falling_of}
use Rattle.volume.specs.Planned.{IsPlanned}
use Rattle.volume.specs.declared.plan.Action.TheVariants.{Move}
use Rattle.volume.specs.declared.plan.Moving.{Moving}
use Rattle.rename_ptr.specs.Steps.{target_of, steps_of}

-- The image is tidy and reads as the state, and this is the move of an accepted rename of these paths, with a name of bytes.
pub record IsMovingAt (P : ℕ) (I : List ℕ) (state : State) (from to : Route) (moving : Moving) : Type 0 where
  pub tidy : Tidy P I
  pub reads : ReadsAs P I state
  pub planned : IsPlanned P I state (Rename from to) (Move moving)
  pub is_name : IsName moving.to_name
  pub of_bytes : IsBytes moving.to_name

-- the image is that of some move
abbrev pub IsMovable : ℕ → List ℕ → Moving → Type 0
IsMovable P I moving = (state : State) × (from : Route) × (to : Route) × IsMovingAt P I state from to moving

-- From W to K the name is moved, in the intervals of the laws; no other word has changed.
pub record IsRenamed (P : ℕ) (W K : List ℕ) (moving : Moving) : Type 0 where
  pub opened : List ℕ
  pub pointed : List ℕ
  pub cleared : List ℕ
  pub given : List ℕ
  pub page : IsTargetOpened P W opened moving.to_directory moving.to_slot (target_of moving)
  pub points : PointsAt P opened pointed moving.from_slot moving.to_slot (target_of moving) (rising_of moving)
  pub finishes : Finishes P W pointed cleared given K moving.from_slot moving.to_directory moving.to_slot (target_of moving) (falling_of moving)

-- The steps were made in turn, each settled before the next, and where the call succeeds these words are made, and no other word has
-- changed. What a crash leaves hangs on one word alone: the inode number of the slot that takes the name.
pub record HasRenamed {T E : Type 0} (P : ℕ) (before after : DeviceView) (moving : Moving) (pages : List ℕ) (result : Result T E) : Type 0 where
  pub in_turn : Unfolds (steps_of P moving pages) before after result
  pub made : OnOk result (IsRenamed P before.words after.words moving)
  pub commit_word : HangsOn P before.trail after.trail (slot_word_of P moving.to_slot 0)

-- What is left of a call costs the same on two volumes, where as many pages go with a node.
use Rattle.std.proofs.Common.{◌≡◌, ℕ, List, ◌++◌, length, Option, Some, None, refl}
use Rattle.entry_steps.specs.Steps.{claim_steps}
use Rattle.volume.specs.declared.plan.Moving.{Moving}
use Rattle.volume.specs.declared.plan.Removal.{Removal}
use Rattle.volume.specs.declared.plan.Resizing.{Resizing}
use Rattle.unlink_ops.specs.declared.removal.Stage.{Stage as RemovalStage}
use Rattle.unlink_ops.specs.declared.removal.Stage.TheVariants.{Begun as NameThere, Unnamed, Cleared as SlotCleared, Disowned as PagesDisowned}
use Rattle.unlink_ops.specs.RemovalStages as removals
use Rattle.rename_ptr.specs.declared.rename.Progress.{Progress as MoveProgress}
use Rattle.rename_ptr.specs.declared.rename.Progress.TheVariants.{Begun as MoveBegun, Filled as MoveFilled, Opened, Pointed, Moved, Left, Cleared, Disowned}
use Rattle.rename_ptr.specs.Stages as moves
use Rattle.rename_ptr.specs.Steps.{opening, moving_steps}
use Rattle.data_ops.specs.declared.grow.Growth.{Growth}
use Rattle.data_ops.specs.declared.grow.Progress.{Progress}
use Rattle.data_ops.specs.declared.grow.Progress.TheVariants.{Begun, Filled, Owned}
use Rattle.data_ops.specs.declared.truncate.CutProgress.{CutProgress}
use Rattle.data_ops.specs.declared.truncate.CutProgress.TheVariants.{Begun as CutBegun, Lowered, Trimmed}
use Rattle.data_ops.specs.Cutting.{gone_pages}
use Rattle.data_ops.specs.GrowthStages.{left_of_growth}
use Rattle.data_ops.specs.ResizeStages.{left_of_cut}
use Rattle.waiting_laws.proofs.CostsSteps.{CostsAlike}

-- ---- a growth

pub growth_alike : (P Q : ℕ) (growth : Growth) (bytes pages : List ℕ) (progress : Progress)
    → CostsAlike (left_of_growth P growth bytes pages progress) (left_of_growth Q growth bytes pages progress)
growth_alike P Q growth bytes pages Begun = record { events = refl; fences = refl }
growth_alike P Q growth bytes pages Filled = record { events = refl; fences = refl }
growth_alike P Q growth bytes pages Owned = record { events = refl; fences = refl }

-- ---- a cut

pub cut_alike : (P Q : ℕ) (resizing : Resizing) (pages others : List ℕ) (progress : CutProgress) → length (gone_pages resizing pages) ≡ length (gone_pages resizing others)
    → CostsAlike (left_of_cut P resizing pages progress) (left_of_cut Q resizing others progress)
cut_alike P Q resizing pages others CutBegun long = record { events = rw long; fences = rw long }
cut_alike P Q resizing pages others Lowered long = record { events = rw long; fences = rw long }
cut_alike P Q resizing pages others Trimmed long = record { events = rw long; fences = rw long }

-- ---- a name that goes

pub removal_alike : (P Q : ℕ) (removal : Removal) (pages others : List ℕ) (stage : RemovalStage) → length pages ≡ length others
    → CostsAlike (removals.left_at P removal pages stage) (removals.left_at Q removal others stage)
removal_alike P Q removal pages others NameThere long = record { events = rw long; fences = rw long }
removal_alike P Q removal pages others Unnamed long = record { events = rw long; fences = rw long }
removal_alike P Q removal pages others SlotCleared long = record { events = rw long; fences = rw long }
removal_alike P Q removal pages others PagesDisowned long = record { events = rw long; fences = rw long }

-- ---- a name that moves

module _ (P Q : ℕ) (moving : Moving) (pages others : List ℕ) (long : length pages ≡ length others) where
  tail_alike : CostsAlike (moving_steps P moving pages) (moving_steps Q moving others)
  tail_alike = record { events = rw long; fences = rw long }

  -- with the steps of a new page before them
  opened_alike : (new : Option ℕ) → CostsAlike (opening P moving new ++ moving_steps P moving pages) (opening Q moving new ++ moving_steps Q moving others)
  opened_alike None = tail_alike
  opened_alike (Some page) = record { events = rw long; fences = rw long }

  claimed_alike : (new : Option ℕ)
      → CostsAlike (claim_steps P moving.to_directory new ++ moving_steps P moving pages) (claim_steps Q moving.to_directory new ++ moving_steps Q moving others)
  claimed_alike None = tail_alike
  claimed_alike (Some page) = record { events = rw long; fences = rw long }

  pub move_alike : (progress : MoveProgress) → CostsAlike (moves.left_at P moving pages progress) (moves.left_at Q moving others progress)
  move_alike MoveBegun = opened_alike moving.new_page
  move_alike MoveFilled = claimed_alike moving.new_page
  move_alike Opened = tail_alike
  move_alike Pointed = record { events = rw long; fences = rw long }
  move_alike Moved = record { events = rw long; fences = rw long }
  move_alike Left = record { events = rw long; fences = rw long }
  move_alike Cleared = record { events = rw long; fences = rw long }
  move_alike Disowned = record { events = rw long; fences = rw long }

-- No step of a move stores to the superblock.
use Rattle.std.proofs.Common.{ℕ, List, ◌++◌, Option, Some, None}
use Rattle.pm_trait.specs.Unfolds.{AllKeep}
use Rattle.layout.specs.Name.{words_of_name}
use Rattle.layout.specs.Superblock.{IsSuperblockWord}
use Rattle.rename_laws.proofs.Beside.{points_keeps, source_keeps}
use Rattle.volume.specs.Costs.{goes_of}
use Rattle.volume.specs.Moves.{rising_of, falling_of}
use Rattle.volume.specs.declared.plan.Moving.{Moving}
use Rattle.entry_steps.proofs.Beside.{filling_named_keeps, owning_keeps, naming_keeps}
use Rattle.removal_steps.specs.Steps.{number_of}
use Rattle.removal_steps.proofs.Beside.{unnaming_keeps, giving_keeps, freeing_keeps}
use Rattle.rename_ptr.specs.Steps.{target_of, opening, moving_steps, steps_of}

module _ (P : ℕ) (moving : Moving) (pages : List ℕ) where
  moving_keep : AllKeep IsSuperblockWord (moving_steps P moving pages)
  moving_keep = (
    (λ I J points. points_keeps P I J moving.from_slot moving.to_slot (target_of moving) (rising_of moving) points),
    (
      naming_keeps P moving.to_slot moving.inode,
      (
        unnaming_keeps P moving.from_slot,
        (
          (λ I J clears. source_keeps P I J moving.from_slot moving.to_slot (falling_of moving) clears),
          (giving_keeps P pages moving.given_back, (freeing_keeps P pages moving.given_back (goes_of moving.replaced) (number_of moving.replaced), tt)),
        ),
      ),
    ),
  )

  keep_by : (page : Option ℕ) → AllKeep IsSuperblockWord (opening P moving page ++ moving_steps P moving pages)
  keep_by None = moving_keep
  keep_by (Some page) = (filling_named_keeps P page (words_of_name moving.to_name), (owning_keeps P page moving.to_directory, moving_keep))

  pub keeps : AllKeep IsSuperblockWord (steps_of P moving pages)
  keeps = keep_by moving.new_page

-- The mark, which no step of a move changes.
use Rattle.std.proofs.Common.{◌≡◌, ℕ, ◌==◌, List, ap, arith}
use Rattle.std.specs.Prelude.{Option, Some, None, slice_index}
use Rattle.pm_trait.specs.Unfolds.{KeepsWords}
use Rattle.layout.specs.Name.{words_of_name}
use Rattle.layout.specs.Superblock.{IsSuperblockWord, mark_word, closed_mark, has_mark}
use Rattle.rename_laws.proofs.Beside.{points_keeps, source_keeps}
use Rattle.volume.specs.Costs.{goes_of}
use Rattle.volume.specs.Moves.{rising_of, falling_of}
use Rattle.volume.specs.declared.plan.Moving.{Moving}
use Rattle.entry_steps.proofs.Beside.{filling_named_keeps, owning_keeps, naming_keeps}
use Rattle.removal_steps.specs.Steps.{number_of}
use Rattle.removal_steps.proofs.Beside.{unnaming_keeps, giving_keeps, freeing_keeps}
use Rattle.rename_ptr.specs.Steps.{target_of}
use Rattle.rename_ptr.specs.Stages.{first_step, claiming_step, step_at}
use Rattle.rename_ptr.specs.declared.rename.Progress.{Progress}
use Rattle.rename_ptr.specs.declared.rename.Progress.TheVariants.{Begun, Filled, Opened, Pointed, Moved, Left, Cleared, Disowned}

pub mark_kept : (I J : List ℕ) → KeepsWords IsSuperblockWord I J → has_mark J ≡ has_mark I
mark_kept I J keeps = ap (λ (w : ℕ). w == closed_mark) (keeps mark_word (omega arith))

module _ (P : ℕ) (moving : Moving) (pages : List ℕ) (I J : List ℕ) where
  first_keeps : (new : Option ℕ) → (first_step P moving new).Makes I J → KeepsWords IsSuperblockWord I J
  first_keeps None points = points_keeps P I J moving.from_slot moving.to_slot (target_of moving) (rising_of moving) points
  first_keeps (Some page) fills = filling_named_keeps P page (words_of_name moving.to_name) I J fills

  claim_keeps : (new : Option ℕ) → (claiming_step P moving new).Makes I J → KeepsWords IsSuperblockWord I J
  claim_keeps None same = λ word is. ap (λ (words : List ℕ). slice_index words word) same
  claim_keeps (Some new) claims = owning_keeps P new moving.to_directory I J claims

  -- no step stores to the superblock
  pub step_keeps : (progress : Progress) → (step_at P moving pages progress).Makes I J → KeepsWords IsSuperblockWord I J
  step_keeps Begun makes = first_keeps moving.new_page makes
  step_keeps Filled makes = claim_keeps moving.new_page makes
  step_keeps Opened makes = points_keeps P I J moving.from_slot moving.to_slot (target_of moving) (rising_of moving) makes
  step_keeps Pointed makes = naming_keeps P moving.to_slot moving.inode I J makes
  step_keeps Moved makes = unnaming_keeps P moving.from_slot I J makes
  step_keeps Left makes = source_keeps P I J moving.from_slot moving.to_slot (falling_of moving) makes
  step_keeps Cleared makes = giving_keeps P pages moving.given_back I J makes
  step_keeps Disowned makes = freeing_keeps P pages moving.given_back (goes_of moving.replaced) (number_of moving.replaced) I J makes

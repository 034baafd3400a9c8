-- What is left of a growth costs its next step and what is left behind that.
use Rattle.std.proofs.Common.{◌≡◌, ℕ, ◌+◌, Bool, List, [], ◌∷◌, Option, Some, None, length, refl, sym, ap, arith}
use Rattle.std.proofs.lemmas.Bool.{lt-ltb}
use Rattle.pm_trait.specs.DeviceView.{DeviceView}
use Rattle.pm_trait.specs.Unfolds.{Step, events_in, fences_in}
use Rattle.volume.specs.Costs.{where_true, growth_events, fences_for_growth}
use Rattle.data_ops.specs.GrowthStages.{IsGrowthAt, left_of_growth, step_of_growth, next_of_growth}
use Rattle.data_ops.specs.Steps.{owning, sizing, growth_steps}
use Rattle.data_ops.specs.declared.grow.Growth.{Growth}
use Rattle.data_ops.specs.declared.grow.Progress.{Progress}
use Rattle.data_ops.specs.declared.grow.Progress.TheVariants.{Begun, Filled, Owned}
use Rattle.waiting_laws.specs.Costs.{Costs}
use Rattle.waiting_laws.proofs.CostsSteps.{falls, costs_first, costs_behind}

module _ (P : ℕ) (growth : Growth) (bytes : List ℕ) where
  -- all of it
  pub growth_all : (pages : List ℕ) → growth_events growth.old_size growth.offset (length pages) ≡ events_in (growth_steps P growth bytes pages)
  growth_all pages = omega arith

  pub growth_fences : (pages : List ℕ) → fences_for_growth pages ≡ fences_in (growth_steps P growth bytes pages)
  growth_fences [] = refl
  growth_fences (page ∷ pages) = sym (ap (λ (t : Bool). 1 + (where_true t 1 + 1)) (lt-ltb 0 (length (page ∷ pages)) (omega arith)))

  -- what is left at the next stage
  abbrev pub growth_left : List ℕ → Option Progress → List Step
  growth_left pages (Some progress) = left_of_growth P growth bytes pages progress
  growth_left pages None = []

  -- owners are given where there are new pages
  filled_costs : (pages : List ℕ) → Costs (growth_steps P growth bytes pages) (step_of_growth P growth bytes pages Begun) (growth_left pages (next_of_growth Begun pages))
  filled_costs [] =
      let here = growth_steps P growth bytes [] in
      let rest = owning P growth.inode [] ∷ sizing growth.inode growth.new_size ∷ [] in
      costs_behind here (step_of_growth P growth bytes [] Begun) rest (sizing growth.inode growth.new_size ∷ []) (costs_first (step_of_growth P growth bytes [] Begun) rest refl)
      (falls (owning P growth.inode []) (sizing growth.inode growth.new_size ∷ []) refl)
  filled_costs (page ∷ pages) = costs_first (step_of_growth P growth bytes (page ∷ pages) Begun) (left_of_growth P growth bytes (page ∷ pages) Filled) refl

  -- each stage
  pub growth_costs : (device : DeviceView) (olds pages : List ℕ) (progress : Progress) → IsGrowthAt P device growth bytes olds pages progress
      → Costs (left_of_growth P growth bytes pages progress) (step_of_growth P growth bytes pages progress) (growth_left pages (next_of_growth progress pages))
  growth_costs device olds pages Begun at = filled_costs pages
  growth_costs device olds pages Filled at = costs_first (owning P growth.inode pages) (left_of_growth P growth bytes pages Owned) (lt-ltb 0 (length pages) at.some)
  growth_costs device olds pages Owned at = costs_first (sizing growth.inode growth.new_size) [] refl

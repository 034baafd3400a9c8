-- What is left of a name that is taken away costs its next step and what is left behind that.
use Rattle.std.proofs.Common.{◌≡◌, ℕ, ◌+◌, Bool, true, false, List, [], refl, sym, ap, subst, ◌∙◌, arith}
use Rattle.std.specs.Prelude.{nat_lt, ◌||◌, if◌then◌else◌}
use Rattle.pm_trait.specs.DeviceView.{DeviceView}
use Rattle.pm_trait.specs.Unfolds.{Step}
use Rattle.tree_model.specs.declared.reply.Reply.TheVariants.{Done}
use Rattle.volume.specs.Volume.{VolumeView}
use Rattle.volume.specs.Costs.{commit_events, clearing_events, loss_events, pages_removed, fences_for_loss}
use Rattle.volume.specs.declared.next.Next.{Next}
use Rattle.volume.specs.declared.next.Next.TheVariants.{More, Ended}
use Rattle.volume.specs.declared.plan.Action.TheVariants.{Remove}
use Rattle.volume.specs.declared.plan.Removal.{Removal}
use Rattle.removal_steps.specs.Steps.{count_cut, giving}
use Rattle.unlink_ops.specs.declared.removal.Stage.{Stage}
use Rattle.unlink_ops.specs.declared.removal.Stage.TheVariants.{Begun, Unnamed, Cleared, Disowned}
use Rattle.unlink_ops.specs.RemovalStages.{RunningView, StandsStage, HasLosses, pages_gone, freeing_of, left_at, left_of, step_at, step_of, begun, next_of, at_stage}
use Rattle.unlink_ops.proofs.Passing.{as_planned, some_store}
use Rattle.waiting_laws.specs.Costs.{Costs, CostsPlan, RemovingCosts}
use Rattle.waiting_laws.proofs.CostsSteps.{CostsAlike, alike_same, alike_through, falls, costs_first, costs_behind}

sum_of : (a b x y : ℕ) → a + b + (x + y) ≡ a + (b + (x + (y + 0)))
sum_of a b x y = omega arith

two_and : (x y : ℕ) → 2 + (x + y) ≡ 1 + (1 + (x + (y + 0)))
two_and x y = omega arith

-- what is left behind a step
abbrev left_behind : VolumeView → Next RunningView → List Step
left_behind volume (More running) = left_of volume running
left_behind volume (Ended reply) = []

module _ (volume : VolumeView) (removal : Removal) (losses : HasLosses volume removal) where
  abbrev P : ℕ
  P = volume.size

  abbrev pages : List ℕ
  pages = pages_gone volume removal

  planned : count_cut pages removal.given_back ≡ pages_removed removal
  planned = as_planned volume removal losses

  -- ---- all of it

  plan_costs : CostsPlan (Remove removal) (left_of volume (begun removal))
  plan_costs = record {
    events = ap (λ (n : ℕ). commit_events + clearing_events 1 + loss_events n removal.loss.goes) (sym planned) ∙ sum_of commit_events (clearing_events 1) _ _;
    fences = ap (λ (n : ℕ). 2 + fences_for_loss n removal.loss.goes) (sym planned) ∙ two_and _ _;
  }

  -- ---- a step

  -- those behind the next one
  abbrev rest_at : Stage → List Step
  rest_at Begun = left_at P removal pages Unnamed
  rest_at Unnamed = left_at P removal pages Cleared
  rest_at Cleared = left_at P removal pages Disowned
  rest_at Disowned = []

  -- the next step has a store
  first : (stage : Stage) → (step_at P removal pages stage).stores ≡ true → Costs (left_at P removal pages stage) (step_at P removal pages stage) (rest_at stage)
  first Begun stores = costs_first (step_at P removal pages Begun) (rest_at Begun) stores
  first Unnamed stores = costs_first (step_at P removal pages Unnamed) (rest_at Unnamed) stores
  first Cleared stores = costs_first (step_at P removal pages Cleared) (rest_at Cleared) stores
  first Disowned stores = costs_first (step_at P removal pages Disowned) (rest_at Disowned) stores

  -- steps without a store fall away
  module _ (none : nat_lt 0 (pages_removed removal) ≡ false) where
    gives_not : nat_lt 0 (count_cut pages removal.given_back) ≡ false
    gives_not = ap (nat_lt 0) planned ∙ none

    over_given : CostsAlike (rest_at Unnamed) (left_at P removal pages Disowned)
    over_given = falls (giving P pages removal.given_back) (left_at P removal pages Disowned) gives_not

    by_goes : (goes : Bool) → removal.loss.goes ≡ goes → CostsAlike (rest_at Unnamed) (left_behind volume (if goes then at_stage removal Disowned else Ended Done))
    by_goes true is = over_given
    by_goes false is =
        alike_through (rest_at Unnamed) (left_at P removal pages Disowned) [] over_given
        (falls (freeing_of P removal pages) [] (ap (λ (t : Bool). t || removal.loss.goes) gives_not ∙ is))

  over_cleared : (some : Bool) → nat_lt 0 (pages_removed removal) ≡ some → CostsAlike (rest_at Unnamed) (left_behind volume (if some then at_stage removal Cleared else if removal.loss.goes then at_stage removal Disowned else Ended Done))
  over_cleared true is = alike_same (rest_at Unnamed) (rest_at Unnamed) refl
  over_cleared false none = by_goes none removal.loss.goes refl

  -- what is left by the next stage costs as much as the steps behind this one
  behind : (stage : Stage) → CostsAlike (rest_at stage) (left_behind volume (next_of removal stage))
  behind Begun = alike_same (rest_at Begun) (rest_at Begun) refl
  behind Unnamed = over_cleared (nat_lt 0 (pages_removed removal)) refl
  behind Cleared = alike_same (rest_at Cleared) (rest_at Cleared) refl
  behind Disowned = alike_same (rest_at Disowned) (rest_at Disowned) refl

  step_costs : (stage : Stage) (next : Next RunningView) → (step_at P removal pages stage).stores ≡ true → next_of removal stage ≡ next → Costs (left_at P removal pages stage) (step_at P removal pages stage) (left_behind volume next)
  step_costs stage next stores is = subst (λ (n : Next RunningView). Costs (left_at P removal pages stage) (step_at P removal pages stage) (left_behind volume n)) is
      (costs_behind (left_at P removal pages stage) (step_at P removal pages stage) (rest_at stage) (left_behind volume (next_of removal stage)) (first stage stores) (behind stage))

running_costs : (volume : VolumeView) (device : DeviceView) (running : RunningView) (next : Next RunningView) → StandsStage volume device running → next_of running.removal running.stage ≡ next
    → Costs (left_of volume running) (step_of volume running) (left_behind volume next)
running_costs volume device running next stands is = step_costs volume running.removal stands.losses running.stage next (some_store volume device running.removal running.stage stands) is

pub removing_costs : RemovingCosts
removing_costs = record {
  plan = plan_costs;
  goes_on = λ volume device running next stands is. running_costs volume device running (More next) stands is;
  ends = λ volume device running reply stands is. running_costs volume device running (Ended reply) stands is;
}

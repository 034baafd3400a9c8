-- What is left of a name that moves costs its next step and what is left behind that.
use Rattle.std.proofs.Common.{◌≡◌, ℕ, Bool, true, false, List, [], Option, Some, None, length, ◌+◌, ◌++◌, refl, sym, ap, subst, ◌∙◌}
use Rattle.std.specs.Prelude.{nat_lt, ◌||◌, if◌then◌else◌}
use Rattle.pm_trait.specs.DeviceView.{DeviceView}
use Rattle.tree_model.specs.declared.reply.Reply.TheVariants.{Done}
use Rattle.volume.specs.Volume.{VolumeView}
use Rattle.volume.specs.Costs.{count_of, goes_of, pages_of_loss, pages_replaced}
use Rattle.volume.specs.declared.next.Next.{Next}
use Rattle.volume.specs.declared.next.Next.TheVariants.{More, Ended}
use Rattle.volume.specs.declared.plan.Action.TheVariants.{Move}
use Rattle.volume.specs.declared.plan.Moving.{Moving}
use Rattle.entry_steps.specs.Steps.{claim_steps, owning}
use Rattle.entry_steps.proofs.Lists.{not_none}
use Rattle.removal_steps.specs.Steps.{gone_pages, count_cut, giving}
use Rattle.rename_ptr.specs.Stages.{HasStore, HasLosses, StandsStage, begun, freeing_of, first_step, claiming_step, left_at, left_of, step_at, step_of, next_of, next_moving, next_first}
use Rattle.rename_ptr.specs.Steps.{opening, pointing, moving_steps}
use Rattle.rename_ptr.specs.declared.rename.Progress.{Progress}
use Rattle.rename_ptr.specs.declared.rename.Progress.TheVariants.{Begun, Filled, Opened, Pointed, Moved, Left, Cleared, Disowned}
use Rattle.rename_ptr.specs.declared.rename.Stage.{Stage}
use Rattle.rename_ptr.specs.declared.rename.Stage.TheVariants.{Nothing, Moving as Moves}
use Rattle.rename_ptr.proofs.Ahead.{stores}
use Rattle.rename_ptr.proofs.Costs as whole
use Rattle.rename_ptr.proofs.Going.{left_now}
use Rattle.rename_ptr.proofs.Stepping
use Rattle.waiting_laws.specs.Costs.{Costs, CostsPlan, MovingCosts}
use Rattle.waiting_laws.proofs.CostsSteps.{CostsAlike, alike_same, alike_through, falls, costs_first, costs_behind}

-- all of it
plan_costs : (volume : VolumeView) (moving : Moving) → HasLosses volume moving → CostsPlan (Move moving) (left_of volume (begun (Move moving)))
plan_costs volume moving losses =
    let pages = gone_pages volume moving.replaced in
    record { events = whole.costs volume.size moving pages losses.count; fences = whole.fences volume.size moving pages losses.count }

module _ (volume : VolumeView) (moving : Moving) (count : length (gone_pages volume moving.replaced) ≡ pages_of_loss moving.replaced) where
  abbrev P : ℕ
  P = volume.size

  abbrev pages : List ℕ
  pages = gone_pages volume moving.replaced

  -- a new page is filled first, where there is one, and then claimed
  first : (new : Option ℕ) → moving.new_page ≡ new → Costs (opening P moving new ++ moving_steps P moving pages) (first_step P moving new) (left_now volume (next_first moving new))
  first None is = costs_first (pointing P moving) (left_at P moving pages Pointed) refl
  first (Some page) is =
      let here = opening P moving (Some page) ++ moving_steps P moving pages in
      let rest = claim_steps P moving.to_directory (Some page) ++ moving_steps P moving pages in
      costs_behind here (first_step P moving (Some page)) rest (left_at P moving pages Filled) (costs_first (first_step P moving (Some page)) rest refl)
      (alike_same rest (left_at P moving pages Filled) (ap (λ (o : Option ℕ). claim_steps P moving.to_directory o ++ moving_steps P moving pages) (sym is)))

  claimed : (new : Option ℕ) (page : ℕ) → new ≡ Some page → Costs (claim_steps P moving.to_directory new ++ moving_steps P moving pages) (claiming_step P moving new) (moving_steps P moving pages)
  claimed None page is = absurd (not_none page is)
  claimed (Some new) page is = costs_first (owning P new moving.to_directory) (moving_steps P moving pages) refl

  -- steps without a store fall away
  module _ (none : nat_lt 0 (pages_replaced moving) ≡ false) where
    gives_not : nat_lt 0 (count_cut pages moving.given_back) ≡ false
    gives_not = ap (λ (n : ℕ). nat_lt 0 (n + count_of moving.given_back)) count ∙ none

    over_given : CostsAlike (left_at P moving pages Cleared) (left_at P moving pages Disowned)
    over_given = falls (giving P pages moving.given_back) (left_at P moving pages Disowned) gives_not

    by_goes : (goes : Bool) → goes_of moving.replaced ≡ goes → CostsAlike (left_at P moving pages Cleared) (left_now volume (if goes then More (Moves moving Disowned) else Ended Done))
    by_goes true is = over_given
    by_goes false is =
        alike_through (left_at P moving pages Cleared) (left_at P moving pages Disowned) [] over_given
        (falls (freeing_of P moving pages) [] (ap (λ (t : Bool). t || goes_of moving.replaced) gives_not ∙ is))

  over_cleared : (some : Bool) → nat_lt 0 (pages_replaced moving) ≡ some
      → CostsAlike (left_at P moving pages Cleared) (left_now volume (if some then More (Moves moving Cleared) else if goes_of moving.replaced then More (Moves moving Disowned) else Ended Done))
  over_cleared true is = alike_same (left_at P moving pages Cleared) (left_at P moving pages Cleared) refl
  over_cleared false none = by_goes none (goes_of moving.replaced) refl

  -- each stage
  step_costs : (progress : Progress) → HasStore moving progress → Costs (left_at P moving pages progress) (step_at P moving pages progress) (left_now volume (next_moving moving progress))
  step_costs Begun has = first moving.new_page refl
  step_costs Filled (page, is) = claimed moving.new_page page is
  step_costs Opened has = costs_first (step_at P moving pages Opened) (left_at P moving pages Pointed) refl
  step_costs Pointed has = costs_first (step_at P moving pages Pointed) (left_at P moving pages Moved) refl
  step_costs Moved has = costs_first (step_at P moving pages Moved) (left_at P moving pages Left) refl
  step_costs Left has =
      costs_behind (left_at P moving pages Left) (step_at P moving pages Left) (left_at P moving pages Cleared) (left_now volume (next_moving moving Left)) (costs_first (step_at P moving pages Left) (left_at P moving pages Cleared) refl)
      (over_cleared (nat_lt 0 (pages_replaced moving)) refl)
  step_costs Cleared has = costs_first (step_at P moving pages Cleared) (left_at P moving pages Disowned) (stores P moving pages count Cleared has)
  step_costs Disowned has = costs_first (step_at P moving pages Disowned) [] (stores P moving pages count Disowned has)

running_costs : (volume : VolumeView) (device : DeviceView) (moving : Moving) (progress : Progress) (next : Next Stage) → StandsStage volume device (Moves moving progress) → next_moving moving progress ≡ next
    → Costs (left_of volume (Moves moving progress)) (step_of volume (Moves moving progress)) (left_now volume next)
running_costs volume device moving progress next stands is = subst (λ (n : Next Stage). Costs (left_of volume (Moves moving progress)) (step_of volume (Moves moving progress)) (left_now volume n)) is
    (step_costs volume moving (Stepping.count_is volume device moving progress stands) progress (Stepping.has_store volume device moving progress stands))

-- where nothing is to be done no step follows
goes_on : (volume : VolumeView) (device : DeviceView) (running next : Stage) → StandsStage volume device running → next_of running ≡ More next → Costs (left_of volume running) (step_of volume running) (left_of volume next)
goes_on volume device Nothing next stands is = absurd (let clash : ◌≡◌ {A = Next Stage} (Ended Done) (More next) = is in cc)
goes_on volume device (Moves moving progress) next stands is = running_costs volume device moving progress (More next) stands is

pub moving_costs : MovingCosts
moving_costs = record {
  plan = plan_costs;
  goes_on = goes_on;
  ends = λ volume device moving progress reply stands is. running_costs volume device moving progress (Ended reply) stands is;
}

-- A call begins among others that wait, and behind its first step all wait again.
use Rattle.std.proofs.Common.{◌≡◌, ℕ, ◌+◌, ◌-◌, ◌<◌, length, None, refl, sym, subst, ◌∙◌, arith}
use Rattle.pm_trait.specs.DeviceView.{DeviceView}
use Rattle.tree_model.specs.Run.{State}
use Rattle.tree_model.specs.declared.command.Command.{Command}
use Rattle.image_reading.specs.Residue.{no_residue}
use Rattle.volume.specs.Volume.{VolumeView}
use Rattle.volume.specs.Stages.{keeping}
use Rattle.volume.specs.declared.next.Next.{Next}
use Rattle.volume.specs.declared.next.Next.TheVariants.{More, Ended}
use Rattle.volume.specs.declared.plan.Action.{Action}
use Rattle.running_calls.specs.declared.running.Running.{Running}
use Rattle.running_calls.specs.Stages.{StandsNext, MayBegin, IsNext, EntersAt, step_of}
use Rattle.waiting_laws.specs.Beside.{MakesStep}
use Rattle.waiting_laws.specs.Begins.{held_of_plan}
use Rattle.running_laws.specs.Numbers.{events_left, CostsAllOf, CostsStep, PlanCostsLaw, StepCostsLaw}
use Rattle.running_laws.specs.Waits.{left_next, bytes_of_command, HoldsLaw, NamesHeldLaw, BegunHoldsLaw, NextHoldsLaw}
use Rattle.running_laws.specs.Steps.{BeganBeside, BeginsLaw, FirstStepLaw}
use Rattle.session_laws.specs.Calls.{Call, Calls, call_at, left_of_all, events_of_all, CallsWait}
use Rattle.session_laws.specs.Going.{IsReadyAmong, IsCallOf, BeganAmong, BeginAmongLaw}
use Rattle.session_laws.specs.Order.{PutInLaw}
use Rattle.session_laws.specs.Others.{OthersWait, OthersWaitLaw}
use Rattle.session_laws.proofs.BeginBeside.{steps_beside}
use Rattle.session_laws.proofs.BeginCall.{HasBegun, call_waits, call_apart}
use Rattle.session_laws.proofs.BeginKept.{begun_stands, some_fence, first_kept}
use Rattle.session_laws.proofs.Lists.{without_idle}

-- ---- its first step

module _ (others_wait : OthersWaitLaw) (begins_law : BeginsLaw) (first_step : FirstStepLaw) (holds_law : HoldsLaw) (begun_holds : BegunHoldsLaw) (next_holds : NextHoldsLaw)
    (plan_costs : PlanCostsLaw) (step_costs : StepCostsLaw) (old new : VolumeView) (before after : DeviceView) (words : State) (calls : Calls) (action : Action) (call : Call)
    (next : Next Running) (wait : CallsWait old before words no_residue calls) (ready : IsReadyAmong old before words call.command action calls)
    (of : IsCallOf words call.command action call calls)
    (makes : MakesStep (step_of (keeping old action) (bytes_of_command call.command) call.running) (EntersAt call.running) (keeping old action) new before after)
    (behind : IsNext call.running next) (stands : StandsNext new after (bytes_of_command call.command) next) where
  began : BeganBeside old new before after words call.command action call.running next (left_of_all old calls)
  began = first_step old new before after words call.command action call.running next (left_of_all old calls) ready.ready of.some of.running of.beside makes behind stands

  others_still : OthersWait old new after began.later (left_next new next) calls
  others_still =
      others_wait old new before after words began.later no_residue (left_next new next) (held_of_plan old action) calls wait
      (steps_beside holds_law old before words calls action call wait ready of began.later began.means begun_holds next_holds new after next behind began.leaves began.waits)

  may : MayBegin old before (bytes_of_command call.command) action
  may = begins_law old before words call.command action (left_of_all old calls) ready.ready of.changing

  all_costs : CostsAllOf old (bytes_of_command call.command) action call.running
  all_costs = plan_costs old before (bytes_of_command call.command) action call.running may of.running

  first_costs : CostsStep (keeping old action) new (bytes_of_command call.command) call.running next
  first_costs =
      let kept = keeping old action in
      let bytes = bytes_of_command call.command in
      step_costs kept (record kept { kept = kept.kept - (step_of kept bytes call.running).events }) new before after bytes call.running next
      (begun_stands old before bytes action call.running may of.running) (subst (λ (n : ℕ). 0 < n) all_costs.fences (some_fence action of.some)) refl refl makes.enters
      behind stands

  kept_now : new.kept ≡ old.kept + events_left new (bytes_of_command call.command) next
  kept_now =
      let kept = keeping old action in
      let bytes = bytes_of_command call.command in
      let left = first_kept (record kept { kept = kept.kept - (step_of kept bytes call.running).events }) new action call.running of.running of.beside makes.enters in
      let all = all_costs.events in
      let step = first_costs.events in
      omega (arith, left, all, step)

  pub has_begun : HasBegun old new after words calls action call next
  has_begun = record {
    later = began.later;
    means = began.means;
    size = began.leaves.affects.size;
    waits = began.waits;
    others = others_still;
    behind = behind;
    stands = stands;
    few = (let all = all_costs.events in let step = first_costs.events in omega (arith, all, step));
    kept = kept_now;
    fences = all_costs.fences ∙ first_costs.fences;
  }

-- ---- and all wait again

module _ (put_in : PutInLaw) (holds_law : HoldsLaw) (names_held : NamesHeldLaw) (begun_holds : BegunHoldsLaw) (next_holds : NextHoldsLaw) (old new : VolumeView)
    (before after : DeviceView) (words : State) (calls : Calls) (s : ℕ) (action : Action) (call : Call) (wait : CallsWait old before words no_residue calls)
    (idle : call_at calls s ≡ None) (below : s < length calls) (kept : old.kept ≡ events_of_all old calls) (ready : IsReadyAmong old before words call.command action calls)
    (of : IsCallOf words call.command action call calls) where
  begun_among : (next : Next Running) → HasBegun old new after words calls action call next → BeganAmong new after words calls s call next
  begun_among (More running) first =
      let now : Call = record call { running = running } in
      let put = put_in new after first.later calls s now first.others.calls_wait idle below
      (call_waits holds_law names_held begun_holds next_holds old new before after words calls action call running wait ready of first)
      (call_apart holds_law names_held begun_holds next_holds old new before after words calls action call running wait ready of first) in
      let now_kept = first.kept in
      let same = first.others.events in
      let all = put.events in
      record { later = first.later; means = first.means; calls_wait = put.calls_wait; kept = omega (arith, kept, now_kept, same, all) }
  begun_among (Ended reply) first =
      let same = sym (without_idle calls s idle) in
      let now_kept = first.kept in
      let events = first.others.events in
      record {
        later = first.later;
        means = first.means;
        calls_wait = subst (λ (now : Calls). CallsWait new after first.later no_residue now) same first.others.calls_wait;
        kept = subst (λ (now : Calls). new.kept ≡ events_of_all new now) same (omega (arith, kept, now_kept, events));
      }

module _ (put_in : PutInLaw) (others_wait : OthersWaitLaw) (begins_law : BeginsLaw) (first_step : FirstStepLaw) (holds_law : HoldsLaw) (names_held : NamesHeldLaw)
    (begun_holds : BegunHoldsLaw) (next_holds : NextHoldsLaw) (plan_costs : PlanCostsLaw) (step_costs : StepCostsLaw) where
  pub begin_among_law : BeginAmongLaw
  begin_among_law old new before after words calls s command action call next wait idle below kept ready of makes behind stands =
      let same : command ≡ call.command = sym of.command_is in
      let ready = subst (λ (c : Command). IsReadyAmong old before words c action calls) same ready in
      let of = subst (λ (c : Command). IsCallOf words c action call calls) same of in
      let makes = subst (λ (c : Command).
      MakesStep (step_of (keeping old action) (bytes_of_command c) call.running) (EntersAt call.running) (keeping old action) new before after) same makes in
      let stands = subst (λ (c : Command). StandsNext new after (bytes_of_command c) next) same stands in
      begun_among put_in holds_law names_held begun_holds next_holds old new before after words calls s action call wait idle below kept ready of next
      (has_begun others_wait begins_law first_step holds_law begun_holds next_holds plan_costs step_costs old new before after words calls action call next wait ready of
      makes behind stands)

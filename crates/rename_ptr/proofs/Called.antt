-- The call that carries out the plan of a rename, as its loop: what stands at its begin, and what it has done at its end.
use Rattle.std.proofs.Common.{◌≡◌, ◌⊎◌, inl, inr, ◌*◌, Bool, true, false, sym, ap, subst, ◌∙◌, arith}
use Rattle.std.specs.Prelude.{Result, Ok, Err, IsErr}
use Rattle.pm_trait.specs.declared.event.PmFault.{PmFault}
use Rattle.pm_trait.specs.DeviceView.{DeviceView}
use Rattle.pm_trait.specs.Unfolds.{MayFence, Unfolds}
use Rattle.pm_trait.proofs.Unfolding.{unfolds_as, unfolds_failed_as}
use Rattle.layout.specs.Name.{IsName, IsBytes}
use Rattle.tree_model.specs.PathText.{Route}
use Rattle.tree_model.specs.Run.{State}
use Rattle.tree_model.specs.Step.{Done, is_same_node}
use Rattle.tree_model.specs.declared.command.Command.{Command}
use Rattle.tree_model.specs.declared.command.Command.TheVariants.{Rename}
use Rattle.tree_model.specs.declared.reply.Reply.{Reply}
use Rattle.tree_model.specs.declared.reply.Reply.TheVariants.{Done as Told}
use Rattle.volume.specs.Carried.{IsPlanFor, MayCarry, Carries}
use Rattle.volume.specs.Planned.{IsMovingFor, IsNothingOr}
use Rattle.volume.specs.Stages.{keeping}
use Rattle.volume.specs.Volume.{VolumeView}
use Rattle.volume.specs.declared.next.Next.TheVariants.{More, Ended}
use Rattle.volume.specs.declared.plan.Action.{Action}
use Rattle.volume.specs.declared.plan.Action.TheVariants.{Move, KeepNames}
use Rattle.volume.specs.declared.plan.Moving.{Moving}
use Rattle.removal_steps.specs.Steps.{gone_pages}
use Rattle.rename_ptr.specs.Renaming.{HasRenamed}
use Rattle.rename_ptr.specs.Stages.{MayBegin, StandsStage, StandsNext, begun, left_of}
use Rattle.rename_ptr.specs.declared.rename.Stage.{Stage}
use Rattle.rename_ptr.proofs.Carrying
use Rattle.rename_ptr.proofs.Come.{has_moved}
use Rattle.rename_ptr.proofs.Going.{HasGone, begins_none, begins_move}
use Rattle.rename_ptr.proofs.Going as going
use Rattle.rename_ptr.proofs.Unchanged.{carried_nothing}

plan_by : (same : Bool) (For : Moving → Type 0) (action : Action) → IsNothingOr same KeepNames (λ action. (moving : Moving) × (action ≡ Move moving) × For moving) action → ((moving : Moving) × (action ≡ Move moving)) ⊎ (action ≡ KeepNames)
plan_by true For action is = inr is
plan_by false For action (moving, is, for) = inl (moving, is)

module _ {volume : VolumeView} {old : DeviceView} {plan : Action} (planned : (state : State) × (from : Route) × (to : Route) × IsPlanFor volume old state (Rename from to) plan) (ready : MayCarry volume old plan) where
  -- it is the plan of a move, or nothing is to be done
  plan_is : ((moving : Moving) × (plan ≡ Move moving)) ⊎ (plan ≡ KeepNames)
  plan_is = let (state, from, to, is) = planned in plan_by (is_same_node state.tree from to) (IsMovingFor volume.size old.words state from to) plan is.planned.plan_is

  ready_for : (action : Action) → plan ≡ action → MayCarry volume old action
  ready_for action is = subst (MayCarry volume old) is ready

  stands_none : StandsStage (keeping volume KeepNames) old (begun KeepNames)
  stands_none =
      let (state, from, to, is) = planned in
      let none = is.stands.no_call in
      record {
        going = ready.going;
        whole = is.stands.knows.whole;
        at = tt;
        kept = record { among = omega arith; countable = omega (arith, none); room = omega (arith, none) };
      }

  pub may_begin : MayBegin volume old plan
  may_begin = elim plan_is [
    | inl (moving, is) ↦ (
      inl (moving, is),
      ready.unmarked,
      subst (λ (a : Action). StandsStage (keeping volume a) old (begun a)) (sym is) (Carrying.stands_first planned is (ready_for (Move moving) is)),
    )
    | inr is ↦ (inr is, ready.unmarked, subst (λ (a : Action). StandsStage (keeping volume a) old (begun a)) (sym is) stands_none)
  ]

  -- ---- the loop begins

  fences_none : MayFence old (512 * volume.size) 0 8
  fences_none =
      let (state, from, to, is) = planned in
      record { whole = is.stands.knows.whole; settled = is.stands.settled; room = omega arith; countable = (let few = ready.countable in omega (arith, few)) }

  pub gone_first : (now : VolumeView) (running : Stage) → running ≡ begun plan → now ≡ keeping volume plan → HasGone volume old plan now old (More running)
  gone_first now running is kept =
      let stands : StandsNext now old (More running) = subst (λ (v : VolumeView). StandsStage v old running) (sym kept) (subst (λ (r : Stage). StandsStage (keeping volume plan) old r) (sym is) may_begin.2) in
      elim plan_is [
        | inl (moving, move) ↦ subst (λ (a : Action). HasGone volume old a now old (More running)) (sym move)
            (begins_move volume old moving (More running) now (ap (λ (r : Stage). More r) (is ∙ ap begun move)) (kept ∙ ap (keeping volume) move) stands (Carrying.costs_all planned move)
            (Carrying.may_fence planned move (ready_for (Move moving) move)))
        | inr none ↦ subst (λ (a : Action). HasGone volume old a now old (More running)) (sym none)
            (begins_none volume old (More running) now (ap (λ (r : Stage). More r) (is ∙ ap begun none)) (kept ∙ ap (keeping volume) none) stands fences_none)
      ]

  -- ---- what it has done, with a name of bytes

  module _ (names : (moving : Moving) → plan ≡ Move moving → IsName moving.to_name × IsBytes moving.to_name) where
    pub stored : {E : Type 0} {T : Type 0} {new : DeviceView} {result : Result T E} → Unfolds (left_of volume (begun plan)) old new result → (moving : Moving) → plan ≡ Move moving → HasRenamed volume.size old new moving (gone_pages volume moving.replaced) result
    stored {new = new} {result = result} made moving is =
        Carrying.stored planned is (names moving is).0 (names moving is).1 (subst (λ (a : Action). Unfolds (left_of volume (begun a)) old new result) is made) moving is

    pub carried : (after : VolumeView) (new : DeviceView) (reply : Reply) → HasGone volume old plan after new (Ended reply) → Carries {E = PmFault} volume after old new plan Done (λ (command : Command). Unit {0}) (Ok reply)
    carried after new reply gone =
        let made = going.unfolds volume old plan after new reply gone in
        subst (λ (r : Reply). Carries {E = PmFault} volume after old new plan Done (λ (command : Command). Unit {0}) (Ok r)) (sym gone.come.0) (elim gone.come.1 [
          | inl (none, same) ↦
              let (state, from, to, is) = planned in
              let still : new ≡ old = (subst (λ (a : Action). Unfolds {T = Unit {0}} {E = PmFault} (left_of volume (begun a)) old new (Ok tt)) none made).in_turn.0 in
              subst (λ (a : Action). Carries {E = PmFault} volume after old new a Done (λ (command : Command). Unit {0}) (Ok Told)) (sym none)
              (subst (λ (v : VolumeView). Carries {E = PmFault} volume v old new KeepNames Done (λ (command : Command). Unit {0}) (Ok Told)) (sym same)
              (subst (λ (d : DeviceView). Carries {E = PmFault} volume volume old d KeepNames Done (λ (command : Command). Unit {0}) (Ok Told)) (sym still) (carried_nothing volume old is.stands.settled ready.going)))
          | inr (moving, is, back) ↦
              let kept = going.kept_same volume old plan after new reply gone in
              Carrying.carried planned is (names moving is).0 (names moving is).1 (subst (λ (a : Action). Unfolds {T = Unit {0}} {E = PmFault} (left_of volume (begun a)) old new (Ok tt)) is made)
              (has_moved volume after moving back (Carrying.no_new_page planned is) kept) kept ready
        ])

    carried_no_further : (after : VolumeView) (new : DeviceView) (failed : PmFault) (fault : PmFault) → Unfolds {T = Unit {0}} {E = PmFault} (left_of volume (begun plan)) old new (Err failed) → after.stopped ≡ true → after.size ≡ volume.size → after.marked ≡ volume.marked
        → Carries {E = PmFault} volume after old new plan Done (λ (command : Command). Unit {0}) (Err fault)
    carried_no_further after new failed fault made stopped size marked = elim plan_is [
      | inl (moving, is) ↦
          Carrying.carried_no_further planned is (names moving is).0 (names moving is).1 fault (subst (λ (a : Action). Unfolds {T = Unit {0}} {E = PmFault} (left_of volume (begun a)) old new (Err failed)) is made) ready stopped size marked
      | inr none ↦
          let clash : false ≡ true = (subst (λ (a : Action). Unfolds {T = Unit {0}} {E = PmFault} (left_of volume (begun a)) old new (Err failed)) none made).in_turn.1 in
          absurd cc
    ]

    -- by a result that is some fault
    pub carried_err : (after : VolumeView) (new : DeviceView) (result : Result Reply PmFault) → IsErr result → ((fault : PmFault) → Unfolds {T = Unit {0}} {E = PmFault} (left_of volume (begun plan)) old new (Err fault))
        → after.stopped ≡ true → after.size ≡ volume.size → after.marked ≡ volume.marked → Carries {E = PmFault} volume after old new plan Done (λ (command : Command). Unit {0}) result
    carried_err after new (Ok reply) is made stopped size marked = let clash : false ≡ true = is in absurd cc
    carried_err after new (Err fault) is made stopped size marked = carried_no_further after new fault fault (made fault) stopped size marked

    pub stored_err : (new : DeviceView) (result : Result Reply PmFault) → IsErr result → ((fault : PmFault) → Unfolds {T = Unit {0}} {E = PmFault} (left_of volume (begun plan)) old new (Err fault))
        → (moving : Moving) → plan ≡ Move moving → HasRenamed volume.size old new moving (gone_pages volume moving.replaced) result
    stored_err new (Ok reply) is made moving move = let clash : false ≡ true = is in absurd cc
    stored_err new (Err fault) is made moving move = stored (unfolds_failed_as fault (made fault)) moving move

    pub stored_ok : (after : VolumeView) (new : DeviceView) (reply : Reply) → HasGone volume old plan after new (Ended reply) → (moving : Moving) → plan ≡ Move moving
        → HasRenamed {T = Reply} {E = PmFault} volume.size old new moving (gone_pages volume moving.replaced) (Ok reply)
    stored_ok after new reply gone moving move = stored (unfolds_as reply (going.unfolds volume old plan after new reply gone)) moving move

-- What a line leaves whose plan was carried out, or in which a fence failed.
use Rattle.std.proofs.Common.{◌≡◌, inl, inr, ℕ, ◌+◌, ◌<◌, true, List, is_none, ◌&&◌, refl, sym, ap, subst, ◌∙◌, arith, true≢false}
use Rattle.std.proofs.lemmas.Bool.{cases_lt}
use Rattle.std.specs.Prelude.{IsTrue, None, Result, Ok, Err, OnOk, OnErr, IfOk}
use Rattle.pm_trait.specs.DeviceView.{DeviceView}
use Rattle.pm_trait.specs.Device.{EndsInFault}
use Rattle.pm_trait.specs.declared.event.PmFault.{PmFault}
use Rattle.tree_model.specs.Step.{Answer, Done, Count, Status as StatusAnswer, Bytes as BytesAnswer, Listed, Space as SpaceAnswer, Refused, Unread, Fault, Stopped, refusal_of}
use Rattle.tree_model.specs.Run.{State, is_changing, may_fail}
use Rattle.tree_model.specs.Fences.{fences_of}
use Rattle.tree_model.specs.Replies.{reply_of}
use Rattle.tree_model.specs.declared.command.Command.{Command}
use Rattle.tree_model.specs.declared.reply.Reply.{Reply}
use Rattle.volume.specs.Volume.{VolumeView}
use Rattle.volume.specs.Carried.{IsPlanFor, LeavesState, MayCarry, Follows, Carries}
use Rattle.volume.specs.Stands.{StandsFor}
use Rattle.volume.specs.Prepared.{IsChange}
use Rattle.volume.specs.Costs.{events_of, fences_of_plan}
use Rattle.volume.specs.declared.plan.Action.{Action}
use Rattle.volume.proofs.Plans.{change_is, fences_of_plan-le}
use Rattle.volume.proofs.PlanZero.{events_none, fences_none}
use Rattle.image_reading.proofs.Tidied.{tidied}
use Rattle.layout.specs.Superblock.{has_mark}
use Rattle.engine.proofs.Marks.{fences_without, keeps_call}
use Rattle.engine.proofs.Might.{might_take}
use Rattle.engine.specs.Exec.{Executed, HasFailed, Does, LeavesVolume, KeepsBytes}
use Rattle.engine.specs.Replies.{IsTold, IsChangeReply}
use Rattle.engine.specs.Session.{SessionView, session_of}

-- on a volume with the mark a plan is carried out that makes no fence
none_marked : {volume : VolumeView} {device : DeviceView} {action : Action} {state : State} → MayCarry volume device action → StandsFor volume device state → has_mark device.words ≡ true → fences_of_plan action ≡ 0
none_marked {action = action} ready stands marked = elim (cases_lt 0 (events_of action)) [
  | inl some ↦ absurd (true≢false (sym marked ∙ sym stands.mark ∙ ready.unmarked some))
  | inr none ↦ events_none action (omega (arith, none))
]

-- no byte of the last read changes
pub kept : (bytes : List ℕ) (result : Result Reply PmFault) → KeepsBytes bytes bytes result
kept bytes (Ok reply) = λ not. refl
kept bytes (Err fault) = refl

-- ---- the answer of a change

change_told : (session : SessionView) (device : DeviceView) (answer : Answer) → IsChangeReply (reply_of answer) → IsTold session device answer
change_told session device Done is = tt
change_told session device (Count n) is = tt
change_told session device (StatusAnswer s) is = absurd is
change_told session device (BytesAnswer bytes) is = absurd is
change_told session device (Listed inode names) is = absurd is
change_told session device (SpaceAnswer free) is = absurd is
change_told session device (Refused refusal) is = absurd is
change_told session device (Unread fault) is = absurd is
change_told session device Fault is = absurd is
change_told session device Stopped is = absurd is

pub accepted_change : (P : ℕ) (state : State) (c : Command) → is_changing c ≡ true → refusal_of P state.tree state.room c ≡ None → IsTrue (may_fail P state c)
accepted_change P state c changes accepted = let none = ap is_none accepted in ap (λ b. b && is_none (refusal_of P state.tree state.room c)) changes ∙ none

-- a plan was carried out whose action changes something
module _ {old new : VolumeView} {before after : DeviceView} {action : Action} {answer : Answer} {IsOurs : Command → Type 0} {result : Result Reply PmFault} (carries : Carries old new before after action answer IsOurs result) where
  pub does_carried : {bytes : List ℕ} {c : Command} {other : Action} → IsChangeReply (reply_of answer) → action ≡ other → IsChange other → ((state : State) → IsPlanFor old before state c action → IsOurs c)
      → MayCarry old before action → (state : State) → IsPlanFor old before state c action → Does (session_of old bytes) (session_of new bytes) before after state (Ok c) result
  does_carried {bytes} {c} told is other_changes ours ready state plan_for = record {
    executed = executed result follows.made carries.answered.reply carries.device.counted;
    failed = failed result carries.device.halts carries.device.fewer;
    stays = follows.stays;
  }
    where
      follows : Follows old new before after state c answer result
      follows = carries.meaning state c (ours state plan_for) plan_for

      change : IsChange action
      change = subst IsChange (sym is) other_changes

      changes : is_changing c ≡ true
      changes = change_is old.size before.words state c action plan_for.planned.plan_is ∙ change

      takes_none : (left : LeavesState old new before after state c answer) → after.fences ≡ before.fences + fences_of_plan action → has_mark before.words ≡ true → fences_of state (Ok c) answer left.later ≡ 0
      takes_none left made marked = let took = left.fences in let none = none_marked ready plan_for.stands marked in omega (arith, took, made, none)

      executed : (result : Result Reply PmFault) → OnOk result (LeavesState old new before after state c answer) → IfOk result (λ replied. replied ≡ reply_of answer)
          → OnOk result (after.fences ≡ before.fences + fences_of_plan action) → IfOk result (λ replied. Executed old.size state (Ok c) (session_of new bytes) replied before after)
      executed (Ok replied) left is made = record {
        answer = answer;
        new = left.later;
        replied = record { reply_is = is; told = change_told (session_of new bytes) after answer told };
        step = inl left.steps;
        stands = left.stands;
        any_moment = follows.any_moment;
        no_ack = carries.device.no_ack;
        fences = let took = left.fences in let same = fences_without (has_mark before.words) _ (takes_none left made) in omega (arith, took, same);
        events = let few = left.events in omega (arith, few);
        mark = keeps_call before after _ carries.beside (takes_none left made);
        quiet = λ none.
            let took = left.fences in
            let idle = carries.idle (fences_none action (omega (arith, took, none, made))) in
            (ap (λ (d : DeviceView). d.words) idle.0, ap (λ (d : DeviceView). d.trail) idle.0);
        no_memory = λ lacks. absurd (subst (λ (a : Answer). IsChangeReply (reply_of a)) lacks told);
      }
      executed (Err fault) left is made = tt

      failed : (result : Result Reply PmFault) → OnErr result (EndsInFault after.trail) → OnErr result (after.fences < before.fences + fences_of_plan action)
          → OnErr result (HasFailed old.size state (Ok c) before after)
      failed (Ok replied) last fewer = tt
      failed (Err fault) last fewer = record {
        fails = record { accepted = accepted_change old.size state c changes plan_for.planned.accepted; answered = refl };
        any_moment = follows.any_moment;
        no_ack = carries.device.no_ack;
        last = last;
        action = action;
        planned = plan_for.planned;
        might = might_take old.size before.words state c action (tidied plan_for.stands.tidy) plan_for.stands.reads plan_for.planned;
        least = carries.device.least_fences;
        fewer = omega (arith, fewer);
        events = let few = carries.device.grown in omega (arith, few);
        mark = keeps_call before after (fences_of_plan action) carries.beside (none_marked ready plan_for.stands);
      }

module _ (old new : VolumeView) (before after : DeviceView) (action : Action) (answer : Answer) {IsOurs : Command → Type 0} (told : IsChangeReply (reply_of answer)) where
  pub leaves_carried : (result : Result Reply PmFault) → Carries old new before after action answer IsOurs result → LeavesVolume old new before after result
  leaves_carried (Ok replied) carries =
      let answers = carries.answered in
      let device = carries.device in
      let few = fences_of_plan-le action in
      let most = device.most_fences in
      record {
        quiet = λ not. absurd (not (subst IsChangeReply (sym answers.reply) told));
        same = λ not not_memory. absurd (not (subst IsChangeReply (sym answers.reply) told));
        size = answers.size;
        going = answers.going;
        stopped = tt;
        faults = device.faults;
        no_fault = device.no_fault;
        cause = tt;
        refused = let same = device.refused in omega (arith, same);
        not_refused = λ not. device.refused;
        fault_not_refused = tt;
        fences = omega (arith, few, most);
        acks = device.acks;
      }
  leaves_carried (Err fault) carries =
      let answers = carries.answered in
      let device = carries.device in
      let few = fences_of_plan-le action in
      let most = device.most_fences in
      record {
        quiet = tt;
        same = tt;
        size = answers.size;
        going = tt;
        stopped = answers.stopped;
        faults = device.faults;
        no_fault = tt;
        cause = device.cause;
        refused = let same = device.refused in omega (arith, same);
        not_refused = tt;
        fault_not_refused = device.refused;
        fences = omega (arith, few, most);
        acks = device.acks;
      }

  -- it is answered as a change
  pub reads_carried : (X : Type 0) (result : Result Reply PmFault) → Carries old new before after action answer IsOurs result → IfOk result (λ replied. ¬ IsChangeReply replied → X)
  reads_carried X (Ok replied) carries = λ not. absurd (not (subst IsChangeReply (sym carries.answered.reply) told))
  reads_carried X (Err fault) carries = tt

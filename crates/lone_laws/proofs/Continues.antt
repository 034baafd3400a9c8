-- A turn of the only session that ran a call, whether its entry has come or not.
use Rattle.std.proofs.Common.{◌≡◌, inl, inr, ℕ, ◌+◌, Bool, true, false, length, Option, Some, Ok, refl, sym, ap, subst, ◌∙◌, arith}
use Rattle.std.proofs.lemmas.Bool.{cases_Bool}
use Rattle.tree_model.specs.Run.{State, Line, LineStep}
use Rattle.tree_model.specs.Step as answers
use Rattle.tree_model.specs.Step.{least_free_id}
use Rattle.tree_model.specs.declared.command.Command.{Command}
use Rattle.tree_model.specs.declared.reply.Reply.TheVariants.{Done}
use Rattle.running_laws.specs.Steps.{has_committed}
use Rattle.session_laws.specs.Calls.{Call, call_at, without}
use Rattle.sessions.specs.Interleave.{to_come}
use Rattle.sessions.specs.Steps.{IsDoneAtEnd, IsLeftAs, IsCallAt, IsSameCall, is_entered_before, begun_after, number_of}
use Rattle.sessions.specs.declared.entry.StepReply.{StepReply}
use Rattle.sessions.specs.declared.entry.StepReply.TheVariants.{Running, Ended}
use Rattle.sessions.proofs.GoesLists.{to_enter, to_come_at}
use Rattle.schedules.specs.Turns.{Border, Turn}
use Rattle.schedules.proofs.HistoryGoes.{Entering}
use Rattle.lone_laws.proofs.Answered.{IsAnswered, steps_answered}
use Rattle.lone_laws.proofs.Begins.{from_idle}
use Rattle.lone_laws.proofs.Going.{GoesAlone, Leaves, Enters, EntersNot, entry_comes, line_of_call, ends_with, runs_entered, not_entered}
use Rattle.lone_laws.proofs.OneCall.{all_free}
use Rattle.lone_laws.proofs.Phases.{IsCarried, carried_on, Stands}

module _ (P : ℕ) (base : State) (old : Border) (turn : Turn) (goes : GoesAlone P old turn 0) (call : Call) (runs : call_at old.calls 0 ≡ Some call) (carried : IsCarried P base call) where
  abbrev left : Option Call
  left = call_at goes.on.later_calls 0

  begun : turn.behind.weave.begun ≡ old.weave.begun
  begun = goes.on.begun ∙ ap (begun_after old.weave.begun) runs

  line_is : turn.line ≡ Ok call.command
  line_is = line_of_call P base old turn goes call runs

  same_call : (now : Call) → left ≡ Some now → IsSameCall call now
  same_call now is =
      subst (λ (one : Option Call). IsCallAt (Some call) one turn.line old.history.tree) is (subst (λ (one : Option Call). IsCallAt one left turn.line old.history.tree) runs goes.on.call_is)

  carried_later : (now : Call) → left ≡ Some now → IsCarried P base now
  carried_later now is = carried_on P base call now carried (same_call now is)

  -- ---- it had no entry yet

  answered : old.history ≡ base → (has : Enters P base old turn goes) → IsAnswered P has.entry old.history turn.line goes.on.later
  answered same has =
      let given = has.given call runs in
      subst (λ (line : Line). IsAnswered P has.entry old.history line goes.on.later) (sym line_is)
      (subst (λ (n : ℕ). IsAnswered n has.entry old.history (Ok call.command) goes.on.later) goes.size
      (steps_answered old.weave.volume.size has.entry old.history goes.on.later (all_free old.weave old.device old.calls old.history goes.all.weaving goes.one has.entry has.held) call.command given.steps
      (λ accepted one. given.id_is ∙ carried.given one ∙ ap (λ (s : State). least_free_id s.tree) (sym same))))

  from_waits : has_committed call.running ≡ false → old.history ≡ base → length old.weave.entries + 1 ≡ old.weave.begun → Leaves P base old turn
  from_waits waits same counted = not_entered P base old turn goes (record {
    before = ap is_entered_before runs ∙ waits;
    same = same;
    counted = counted ∙ sym begun;
    answered = λ has behind. answered same has;
    carried = carried_later;
    line = λ now is. line_is ∙ ap Ok (sym (same_call now is).command);
  })

  -- ---- it had one

  module _ (step : LineStep P base (Ok call.command) answers.Done old.history) (counted : length old.weave.entries ≡ old.weave.begun) (has : EntersNot P base old turn goes) where
    step_later : LineStep P base (Ok call.command) answers.Done goes.on.later
    step_later = subst (LineStep P base (Ok call.command) answers.Done) (sym has.history_same) step

    counted_later : length turn.behind.weave.entries ≡ turn.behind.weave.begun
    counted_later = ap length has.same ∙ counted ∙ sym begun

    -- where it runs on no entry is to come
    committed_later : (now : Call) → left ≡ Some now → has_committed now.running ≡ true
    committed_later now is = elim (cases_Bool (has_committed now.running)) [
      | inl committed ↦ committed
      | inr not_yet ↦
          let most = goes.on.weaving.entered in
          let one = to_come_at goes.on.later_calls 0 now is ∙ ap (λ (t : Bool). to_enter t + to_come (without goes.on.later_calls 0)) not_yet in
          let all = counted_later in
          absurd (omega (arith, most, one, all))
    ]

    by_reply : (reply : StepReply) → turn.reply ≡ reply → IsLeftAs reply (number_of old.weave.begun (call_at old.calls 0)) left → IsDoneAtEnd reply → Leaves P base old turn
    by_reply (Running number) is left_as done =
        let (now, some, rest, own) = left_as in
        runs_entered P base old turn goes number now is some (carried_later now some) (committed_later now some)
        (subst (λ (c : Command). LineStep P base (Ok c) answers.Done goes.on.later) (sym (same_call now some).command) step_later) counted_later
    by_reply (Ended number reply) is left_as done =
        ends_with P base old turn goes number Done answers.Done (is ∙ ap (Ended number) done) left_as.0 refl
        (subst (λ (line : Line). LineStep P base line answers.Done goes.on.later) (sym line_is) step_later) counted_later

  from_entry : has_committed call.running ≡ true → LineStep P base (Ok call.command) answers.Done old.history → length old.weave.entries ≡ old.weave.begun → Leaves P base old turn
  from_entry committed step counted =
      let before = ap is_entered_before runs ∙ committed in
      elim (entry_comes P base old turn goes) [
        | Entering.now none behind has ↦ absurd (cc (before, none))
        | Entering.earlier entered has ↦ by_reply step counted has turn.reply refl goes.on.left has.told
        | Entering.to_enter none behind has ↦ absurd (cc (before, none))
      ]

-- ---- whatever it ran

pub goes_alone : (P : ℕ) (base : State) (old : Border) (turn : Turn) → GoesAlone P old turn 0 → Stands P base old → Leaves P base old turn
goes_alone P base old turn goes (Stands.idle none same counted) = from_idle P base old turn goes none same counted
goes_alone P base old turn goes (Stands.waits call runs carried waits same counted) = from_waits P base old turn goes call runs carried waits same counted
goes_alone P base old turn goes (Stands.has_entry call runs carried committed step counted) = from_entry P base old turn goes call runs carried committed step counted

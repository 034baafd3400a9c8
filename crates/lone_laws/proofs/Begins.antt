-- A turn of the only session that ran no call: a command begins, or its line is answered at once.
use Rattle.std.proofs.Common.{◌≡◌, ℕ, true, length, Option, None, Some, refl, ap, subst, ◌∙◌, arith}
use Rattle.tree_model.specs.Run.{State}
use Rattle.image_reading.specs.Residue.{Residue}
use Rattle.session_laws.specs.Calls.{Call, call_at, left_of_all}
use Rattle.sessions.specs.Steps.{IsToldAs, IsCallAt, IsBusyRightly, TakesAll, is_entered_before, is_entered_behind, begun_after}
use Rattle.schedules.specs.Turns.{Border, Turn}
use Rattle.lone_laws.proofs.Answered.{IsAnswered, legal_answered}
use Rattle.lone_laws.proofs.FirstEntry.{first_makes_none, none_in_the_way}
use Rattle.lone_laws.proofs.Going.{GoesAlone, Leaves, Enters, not_entered}
use Rattle.lone_laws.proofs.OneCall.{all_free, none_runs, nothing_left}
use Rattle.lone_laws.proofs.Phases.{IsCarried, carried_first}

module _ (P : ℕ) (base : State) (old : Border) (turn : Turn) (goes : GoesAlone P old turn 0) (none : call_at old.calls 0 ≡ None) where
  abbrev left : Option Call
  left = call_at goes.on.later_calls 0

  abbrev others : Residue
  others = left_of_all old.weave.volume old.calls

  call_first : (now : Option Call) → left ≡ now → IsCallAt None now turn.line old.history.tree
  call_first now is =
      subst (λ (one : Option Call). IsCallAt None one turn.line old.history.tree) is (subst (λ (one : Option Call). IsCallAt one left turn.line old.history.tree) none goes.on.call_is)

  abbrev TakesNow : Option Call → Option Call → Type 0
  TakesNow ran now = TakesAll old.weave.volume.size others turn.behind.weave.volume old.device turn.behind.device ran now old.history turn.line goes.on.later turn.reply

  takes_first : (now : Option Call) → left ≡ now → TakesNow None now
  takes_first now is = subst (TakesNow None) is (subst (λ (one : Option Call). TakesNow one left) none goes.on.takes_all)

  answered : (has : Enters P base old turn goes) → is_entered_behind left ≡ true → IsAnswered P has.entry old.history turn.line goes.on.later
  answered has behind =
      subst (λ (n : ℕ). IsAnswered n has.entry old.history turn.line goes.on.later) goes.size
      (legal_answered old.weave.volume.size has.entry old.history goes.on.later (all_free old.weave old.device old.calls old.history goes.all.weaving goes.one has.entry has.held) turn.line has.legal
      (none_in_the_way old.calls old.history turn.reply has.entry.reply turn.line (none_runs old.weave old.device old.calls old.history goes.all.weaving goes.one none)
      (subst (λ (one : Option Call). IsBusyRightly turn.reply one old.calls old.history turn.line) none goes.on.busy) has.told)
      (λ c line_is one done.
      first_makes_none old.weave.volume.size others turn.behind.weave.volume old.device turn.behind.device goes.on.later_calls old.history goes.on.weaving.words goes.on.later turn.line left turn.reply
      refl behind (call_first left refl) goes.on.weaving.waits (takes_first left refl) goes.on.fences.most (subst (IsToldAs turn.reply) done has.told) c line_is one))

  carried : old.history ≡ base → (call : Call) → left ≡ Some call → IsCarried P base call
  carried same call some =
      subst (λ (s : State). IsCarried P s call) same (subst (λ (n : ℕ). IsCarried n old.history call) goes.size
      (carried_first old.weave.volume.size others turn.behind.weave.volume old.history call
      (nothing_left old.weave old.device old.calls old.history goes.all.weaving goes.one none) (takes_first (Some call) some)))

  pub from_idle : old.history ≡ base → length old.weave.entries ≡ old.weave.begun → Leaves P base old turn
  from_idle same counted =
      let begun = goes.on.begun ∙ ap (begun_after old.weave.begun) none in
      not_entered P base old turn goes (record {
        before = ap is_entered_before none;
        same = same;
        counted = omega (arith, begun, counted);
        answered = answered;
        carried = carried same;
        line = λ call some. (call_first (Some call) some).0;
      })

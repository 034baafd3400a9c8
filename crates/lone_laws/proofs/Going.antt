-- A turn of the only session whose fence succeeds: its call runs on, or it has ended with an answer that `run` may give.
use Rattle.std.proofs.Common.{◌≡◌, ℕ, ◌+◌, true, false, [], ◌∷◌, length, length-append, None, Some, Ok, refl, sym, ap, subst, ◌∙◌, arith}
use Rattle.std.proofs.lemmas.Option.{same_Some}
use Rattle.tree_model.specs.Replies.{reply_of}
use Rattle.tree_model.specs.Run.{State, Line, LineStep}
use Rattle.tree_model.specs.Step as answers
use Rattle.tree_model.specs.Step.{Answer}
use Rattle.tree_model.specs.declared.reply.Reply.{Reply}
use Rattle.running_laws.specs.Steps.{has_committed}
use Rattle.session_lines.specs.Turns.{next_line}
use Rattle.session_laws.specs.Calls.{Call, Calls, call_at}
use Rattle.sessions.specs.Steps.{StepsOn, HasEntered, HasNoEntry, IsToldAs, IsLeftAs, is_entered_before, is_entered_behind, number_of}
use Rattle.sessions.specs.Texts.{answer_in}
use Rattle.sessions.specs.declared.entry.StepReply.{StepReply}
use Rattle.sessions.specs.declared.entry.StepReply.TheVariants.{Running, Ended}
use Rattle.sessions.specs.declared.entry.WeaveReply.{WeaveReply}
use Rattle.sessions.specs.declared.entry.WeaveReply.TheVariants.{Plain}
use Rattle.schedules.specs.Borders.{AllStand}
use Rattle.schedules.specs.Turns.{Border, Turn}
use Rattle.schedules.proofs.HistoryGoes.{Entering, entering}
use Rattle.lone_laws.proofs.Answered.{IsAnswered}
use Rattle.lone_laws.proofs.Phases.{IsCarried, Stands}

same_plain : (one other : Reply) → ◌≡◌ {A = WeaveReply} (Plain one) (Plain other) → one ≡ other
same_plain one other same = cc

-- ---- what it is, and what it leaves

pub record GoesAlone (P : ℕ) (old : Border) (turn : Turn) (session : ℕ) : Type 0 where
  pub size : old.weave.volume.size ≡ P
  pub all : AllStand old
  pub one : length old.weave.tasks ≡ 1
  pub line_is : next_line old.left.lines session ≡ Some turn.line
  pub on : StepsOn old.weave turn.behind.weave old.device turn.behind.device old.calls old.history session turn.line turn.reply
  pub calls : turn.behind.calls ≡ on.later_calls
  pub history : turn.behind.history ≡ on.later

pub data Leaves (P : ℕ) (base : State) (old : Border) (turn : Turn) : Type 0 where
  runs : (number : ℕ) → turn.reply ≡ Running number → Stands P base turn.behind → Leaves P base old turn
  ends : (number : ℕ) (reply : Reply) (answer : Answer) → turn.reply ≡ Ended number (Plain reply) → answer_in old.history.tree turn.line reply ≡ answer
      → LineStep P base turn.line answer turn.behind.history → Stands P turn.behind.history turn.behind → Leaves P base old turn

module _ (P : ℕ) (base : State) (old : Border) (turn : Turn) (goes : GoesAlone P old turn 0) where
  abbrev pub Enters : Type 0
  Enters = HasEntered old.weave turn.behind.weave old.calls 0 turn.line old.history goes.on.later turn.reply

  abbrev pub EntersNot : Type 0
  EntersNot = HasNoEntry old.weave turn.behind.weave old.history goes.on.later turn.reply

  -- whether its entry comes
  pub entry_comes : Entering old.weave turn.behind.weave old.calls 0 turn.line old.history goes.on.later turn.reply (is_entered_before (call_at old.calls 0)) (is_entered_behind (call_at goes.on.later_calls 0))
  entry_comes = entering (is_entered_before (call_at old.calls 0)) (is_entered_behind (call_at goes.on.later_calls 0)) goes.on.enters

  left_is : call_at turn.behind.calls 0 ≡ call_at goes.on.later_calls 0
  left_is = ap (λ (calls : Calls). call_at calls 0) goes.calls

  pub line_of_call : (call : Call) → call_at old.calls 0 ≡ Some call → turn.line ≡ Ok call.command
  line_of_call call is = same_Some turn.line (Ok call.command) (sym goes.line_is ∙ goes.all.same 0 call is)

  -- the call has ended with this answer
  pub ends_with : (number : ℕ) (reply : Reply) (answer : Answer) → turn.reply ≡ Ended number (Plain reply) → call_at goes.on.later_calls 0 ≡ None
      → answer_in old.history.tree turn.line reply ≡ answer → LineStep P base turn.line answer goes.on.later → length turn.behind.weave.entries ≡ turn.behind.weave.begun → Leaves P base old turn
  ends_with number reply answer is none told step counted =
      Leaves.ends number reply answer is told (subst (LineStep P base turn.line answer) (sym goes.history) step) (Stands.idle (left_is ∙ none) refl counted)

  -- it runs on, and has its entry
  pub runs_entered : (number : ℕ) (call : Call) → turn.reply ≡ Running number → call_at goes.on.later_calls 0 ≡ Some call → IsCarried P base call → has_committed call.running ≡ true
      → LineStep P base (Ok call.command) answers.Done goes.on.later → length turn.behind.weave.entries ≡ turn.behind.weave.begun → Leaves P base old turn
  runs_entered number call is some carried committed step counted =
      Leaves.runs number is
      (Stands.has_entry call (left_is ∙ some) carried committed (subst (LineStep P base (Ok call.command) answers.Done) (sym goes.history) step) counted)

  -- ---- its entry comes, or is to come still

  -- What is known of it, whether it begins or runs.
  pub record IsToEnter : Type 0 where
    pub before : is_entered_before (call_at old.calls 0) ≡ false
    pub same : old.history ≡ base
    pub counted : length old.weave.entries + 1 ≡ turn.behind.weave.begun
    pub answered : (has : Enters) → is_entered_behind (call_at goes.on.later_calls 0) ≡ true → IsAnswered P has.entry old.history turn.line goes.on.later
    pub carried : (call : Call) → call_at goes.on.later_calls 0 ≡ Some call → IsCarried P base call
    pub line : (call : Call) → call_at goes.on.later_calls 0 ≡ Some call → turn.line ≡ Ok call.command

  module _ (to_enter : IsToEnter) where
    entries : Enters → length turn.behind.weave.entries ≡ turn.behind.weave.begun
    entries has =
        let more = ap length has.added ∙ length-append old.weave.entries (has.entry ∷ []) in
        let counted = to_enter.counted in
        omega (arith, more, counted)

    enters : (has : Enters) (reply : StepReply) → turn.reply ≡ reply → IsLeftAs reply (number_of old.weave.begun (call_at old.calls 0)) (call_at goes.on.later_calls 0)
        → IsToldAs reply has.entry.reply → is_entered_behind (call_at goes.on.later_calls 0) ≡ true → Leaves P base old turn
    enters has (Running number) is left told behind =
        let entry = to_enter.answered has behind in
        let (call, some, rest, own) = left in
        let done : entry.answer ≡ answers.Done = sym entry.told ∙ ap (answer_in old.history.tree turn.line) (same_plain _ _ (sym entry.reply_is ∙ told)) in
        runs_entered number call is some (to_enter.carried call some) (ap is_entered_behind (sym some) ∙ behind)
        (subst (λ (line : Line). LineStep P base line answers.Done goes.on.later) (to_enter.line call some)
        (subst (λ (answer : Answer). LineStep P base turn.line answer goes.on.later) done (subst (λ (s : State). LineStep P s turn.line entry.answer goes.on.later) to_enter.same entry.step)))
        (entries has)
    enters has (Ended number reply) is left told behind =
        let entry = to_enter.answered has behind in
        ends_with number (reply_of entry.answer) entry.answer (is ∙ ap (Ended number) (told ∙ entry.reply_is)) left.0 entry.told
        (subst (λ (s : State). LineStep P s turn.line entry.answer goes.on.later) to_enter.same entry.step) (entries has)

    waits : EntersNot → (reply : StepReply) → turn.reply ≡ reply → IsLeftAs reply (number_of old.weave.begun (call_at old.calls 0)) (call_at goes.on.later_calls 0)
        → is_entered_behind (call_at goes.on.later_calls 0) ≡ false → Leaves P base old turn
    waits has (Running number) is left behind =
        let (call, some, rest, own) = left in
        let counted = to_enter.counted in
        let same = ap length has.same in
        Leaves.runs number is
        (Stands.waits call (left_is ∙ some) (to_enter.carried call some) (ap is_entered_behind (sym some) ∙ behind) (goes.history ∙ has.history_same ∙ to_enter.same) (omega (arith, counted, same)))
    waits has (Ended number reply) is left behind = let clash : true ≡ false = ap is_entered_behind (sym left.0) ∙ behind in absurd (cc clash)

    pub not_entered : Leaves P base old turn
    not_entered = elim entry_comes [
      | Entering.now none behind has ↦ enters has turn.reply refl goes.on.left has.told behind
      | Entering.earlier entered has ↦ let before = to_enter.before in absurd (cc (before, entered))
      | Entering.to_enter none behind has ↦ waits has turn.reply refl goes.on.left behind
    ]

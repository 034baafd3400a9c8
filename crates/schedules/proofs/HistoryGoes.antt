-- A step whose fence succeeds: its call gets its entry in it, has it from before, or is to come still.
use Rattle.std.proofs.Common.{◌≡◌, ◌⊎◌, inl, inr, ℕ, ◌+◌, ◌≤◌, Bool, true, false, List, [], ◌∷◌, ◌++◌, length, length-append, append-nil, not, ◌&&◌, refl, sym, ap, subst, ◌∙◌, arith}
use Rattle.std.specs.Prelude.{if◌then◌else◌, Option, None, Some, Ok}
use Rattle.std.proofs.lemmas.Bool.{cases_eq, cases_Bool}
use Rattle.std.proofs.lemmas.Option.{same_Some}
use Rattle.tree_model.specs.Run.{State, Line}
use Rattle.tree_model.specs.declared.reply.Reply.TheVariants.{Done}
use Rattle.running_laws.specs.Steps.{has_committed}
use Rattle.session_lines.specs.Turns.{next_line}
use Rattle.session_laws.specs.Calls.{Call, Calls, call_at}
use Rattle.sessions.specs.History.{IsLegal, IsLegalHistory}
use Rattle.sessions.specs.Interleave.{InterleaveView, to_come}
use Rattle.sessions.specs.Steps.{StepsOn, HasEntered, HasNoEntry, Enters, IsToldAs, IsDoneAtEnd, IsLeftAs, IsCallAt, is_entered_before, is_entered_behind, begun_after}
use Rattle.sessions.specs.Steps.{number_of as own_number}
use Rattle.sessions.specs.declared.entry.Entry.{Entry}
use Rattle.sessions.specs.declared.entry.StepReply.{StepReply}
use Rattle.sessions.specs.declared.entry.StepReply.TheVariants.{Running, Ended}
use Rattle.sessions.specs.declared.entry.WeaveReply.{WeaveReply}
use Rattle.sessions.specs.declared.entry.WeaveReply.TheVariants.{Plain}
use Rattle.schedules.specs.Turns.{Border, Turn}
use Rattle.schedules.specs.Borders.{AllStand}
use Rattle.schedules.specs.Entries.{number_of, StandOnce, IsWhole, StandsAmong}
use Rattle.schedules.proofs.EntryLists.{HasNone, AreAtMost, legal_more, once_more, most_more, none_more, stands_more, stands_last}
use Rattle.schedules.proofs.Numbers.{below_more}
use Rattle.schedules.proofs.SoFar.{SoFar, Goes, TurnStands, so_far_kept}
use Rattle.schedules.proofs.ToCome.{is_to_come, to_come_other}

-- ---- what a reply says of its call

pub reply_number : (reply : StepReply) (own : ℕ) (left : Option Call) → IsLeftAs reply own left → number_of reply ≡ own
reply_number (Running number) own left is = is.3
reply_number (Ended number reply) own left is = is.1

left_number : (reply : StepReply) (own : ℕ) (call : Call) → IsLeftAs reply own (Some call) → call.number ≡ own
left_number (Running number) own call is = ap (λ (one : Call). one.number) (same_Some call is.0 is.1) ∙ is.2
left_number (Ended number reply) own call is = let none = is.0 in absurd (cc none)

left_done : (reply : StepReply) (own : ℕ) (call : Call) (answer : WeaveReply) → IsLeftAs reply own (Some call) → IsToldAs reply answer → answer ≡ Plain Done
left_done (Running number) own call answer is told = told
left_done (Ended number reply) own call answer is told = let none = is.0 in absurd (cc none)

told_done : (reply : StepReply) → IsDoneAtEnd reply → IsToldAs reply (Plain Done)
told_done (Running number) done = refl
told_done (Ended number reply) done = done

-- ---- whether its entry comes

pub data Entering (old new : InterleaveView) (calls : Calls) (session : ℕ) (line : Line) (history later : State) (reply : StepReply) (before behind : Bool) : Type 0 where
  now : before ≡ false → behind ≡ true → HasEntered old new calls session line history later reply → Entering old new calls session line history later reply before behind
  earlier : before ≡ true → HasNoEntry old new history later reply → Entering old new calls session line history later reply before behind
  to_enter : before ≡ false → behind ≡ false → HasNoEntry old new history later reply → Entering old new calls session line history later reply before behind

pub entering : {old new : InterleaveView} {calls : Calls} {session : ℕ} {line : Line} {history later : State} {reply : StepReply} (before behind : Bool)
    → Enters (not before && behind) old new calls session line history later reply → Entering old new calls session line history later reply before behind
entering true behind enters = Entering.earlier refl enters
entering false true enters = Entering.now refl refl enters
entering false false enters = Entering.to_enter refl refl enters

-- ---- the step, behind turns that have left this

pub record IsStep (start : Border) (lines : ℕ → Line) (passed : List Turn) (old : Border) (turn : Turn) : Type 0 where
  pub so_far : SoFar start lines old
  pub goes : Goes lines passed old
  pub all : AllStand old
  pub line_is : next_line old.left.lines turn.session ≡ Some turn.line
  pub fresh : call_at old.calls turn.session ≡ None → lines (old.weave.begun + 1) ≡ turn.line
  pub size : turn.behind.weave.volume.size ≡ old.weave.volume.size
  pub steps : StepsOn old.weave turn.behind.weave old.device turn.behind.device old.calls old.history turn.session turn.line turn.reply
  pub calls : turn.behind.calls ≡ steps.later_calls
  pub history : turn.behind.history ≡ steps.later

-- What stands of the call before it.
record IsBefore (lines : ℕ → Line) (old : Border) (turn : Turn) (ran : Option Call) (own : ℕ) : Type 0 where
  pub line : lines own ≡ turn.line
  pub begun : own ≤ turn.behind.weave.begun
  pub grown : old.weave.begun ≤ turn.behind.weave.begun
  pub none : is_entered_before ran ≡ false → HasNone old.weave.entries own
  pub stands : is_entered_before ran ≡ true → StandsAmong old.weave.entries (length old.weave.entries) turn.session own (Plain Done)
  pub others : (s : ℕ) (other : Call) → (s ≡ turn.session → ⊥) → call_at old.calls s ≡ Some other → own ≡ other.number → ⊥
  pub counted : turn.behind.weave.begun + is_to_come ran ≡ old.weave.begun + (if is_entered_before ran then 0 else 1)

counted_behind : (left : Option Call) → is_to_come left ≡ (if is_entered_behind left then 0 else 1)
counted_behind None = refl
counted_behind (Some call) = refl

module _ {start : Border} {lines : ℕ → Line} {passed : List Turn} {old : Border} {turn : Turn} (step : IsStep start lines passed old turn) where
  line_of_call : (call : Call) → call_at old.calls turn.session ≡ Some call → turn.line ≡ Ok call.command
  line_of_call call runs = same_Some turn.line (Ok call.command) (sym step.line_is ∙ step.all.same turn.session call runs)

  before_by : (ran : Option Call) → call_at old.calls turn.session ≡ ran → turn.behind.weave.begun ≡ begun_after old.weave.begun ran
      → IsBefore lines old turn ran (own_number old.weave.begun ran)
  before_by None runs begun = record {
    line = step.fresh runs;
    begun = omega (arith, begun);
    grown = omega (arith, begun);
    none = λ is place entry there same. let most = step.so_far.most place entry there in omega (arith, most, same);
    stands = λ is. absurd (cc is);
    others = λ s other apart other_runs same. let most = step.all.weaving.numbered.most s other other_runs in omega (arith, most, same);
    counted = omega (arith, begun);
  }
  before_by (Some call) runs begun = record {
    line = step.goes.line turn.session call runs ∙ sym (line_of_call call runs);
    begun = let most = step.all.weaving.numbered.most turn.session call runs in omega (arith, most, begun);
    grown = omega (arith, begun);
    none = step.goes.to_stand turn.session call runs;
    stands = step.goes.stands turn.session call runs;
    others = λ s other apart other_runs same. apart (step.all.weaving.numbered.own s turn.session other call other_runs runs (sym same));
    counted = ap (λ (n : ℕ). n + is_to_come (Some call)) begun;
  }

  abbrev ran : Option Call
  ran = call_at old.calls turn.session

  abbrev left : Option Call
  left = call_at step.steps.later_calls turn.session

  abbrev own : ℕ
  own = own_number old.weave.begun ran

  is_before : IsBefore lines old turn ran own
  is_before = before_by ran refl step.steps.begun

  abbrev Enter : Type 0
  Enter = Entering old.weave turn.behind.weave old.calls turn.session turn.line old.history step.steps.later turn.reply (is_entered_before ran) (is_entered_behind left)

  enter : Enter
  enter = entering (is_entered_before ran) (is_entered_behind left) step.steps.enters

  -- ---- how many are to come

  one_other : to_come step.steps.later_calls + is_to_come ran ≡ to_come old.calls + is_to_come left
  one_other = to_come_other old.calls step.steps.later_calls turn.session step.steps.others

  count_before : (b : Bool) → is_entered_before ran ≡ b → turn.behind.weave.begun + is_to_come ran ≡ old.weave.begun + (if b then 0 else 1)
  count_before b is = is_before.counted ∙ ap (λ (t : Bool). old.weave.begun + (if t then 0 else 1)) is

  count_behind : (b : Bool) → is_entered_behind left ≡ b → is_to_come left ≡ (if b then 0 else 1)
  count_behind b is = counted_behind left ∙ ap (λ (t : Bool). if t then 0 else 1) is

  -- one that has its entry has committed still
  stays_entered : is_entered_before ran ≡ true → length turn.behind.weave.entries ≡ length old.weave.entries → is_entered_behind left ≡ true
  stays_entered before same = elim (cases_Bool (is_entered_behind left)) [
    | inl behind ↦ behind
    | inr gone ↦
        let known = step.goes.counted in
        let most = step.steps.weaving.entered in
        let other = one_other in
        let first = count_before true before in
        let second = count_behind false gone in
        absurd (omega (arith, known, most, other, first, second, same))
  ]

  counted_later : Enter → length turn.behind.weave.entries + to_come step.steps.later_calls ≡ turn.behind.weave.begun
  counted_later (Entering.now before behind has) =
      let known = step.goes.counted in
      let other = one_other in
      let first = count_before false before in
      let second = count_behind true behind in
      let more = ap length has.added ∙ length-append old.weave.entries (has.entry ∷ []) in
      omega (arith, known, other, first, second, more)
  counted_later (Entering.earlier before has) =
      let same = ap length has.same in
      let known = step.goes.counted in
      let other = one_other in
      let first = count_before true before in
      let second = count_behind true (stays_entered before same) in
      omega (arith, known, other, first, second, same)
  counted_later (Entering.to_enter before behind has) =
      let same = ap length has.same in
      let known = step.goes.counted in
      let other = one_other in
      let first = count_before false before in
      let second = count_behind false behind in
      omega (arith, known, other, first, second, same)

  -- ---- the entries

  legal_here : (has : HasEntered old.weave turn.behind.weave old.calls turn.session turn.line old.history step.steps.later turn.reply)
      → IsLegal start.weave.volume.size has.entry (lines has.entry.number) old.history step.steps.later
  legal_here has =
      subst (λ (P : ℕ). IsLegal P has.entry (lines has.entry.number) old.history step.steps.later) step.so_far.size
      (subst (λ (line : Line). IsLegal old.weave.volume.size has.entry line old.history step.steps.later) (sym (ap lines has.number_is ∙ is_before.line)) has.legal)

  so_far_quiet : HasNoEntry old.weave turn.behind.weave old.history step.steps.later turn.reply → SoFar start lines turn.behind
  so_far_quiet has = so_far_kept start lines old turn.behind step.so_far step.size has.same (step.history ∙ has.history_same) is_before.grown

  so_far_later : Enter → SoFar start lines turn.behind
  so_far_later (Entering.now before behind has) = record {
    size = step.size ∙ step.so_far.size;
    legal =
        subst (λ (l : List Entry). IsLegalHistory start.weave.volume.size lines start.history l turn.behind.history) (sym has.added)
        (subst (λ (s : State). IsLegalHistory start.weave.volume.size lines start.history (old.weave.entries ++ has.entry ∷ []) s) (sym step.history)
        (legal_more start.weave.volume.size lines start.history old.weave.entries has.entry old.history step.steps.later step.so_far.legal (legal_here has)));
    once = subst StandOnce (sym has.added) (once_more old.weave.entries has.entry step.so_far.once (subst (HasNone old.weave.entries) (sym has.number_is) (is_before.none before)));
    most = subst (λ (l : List Entry). AreAtMost l turn.behind.weave.begun) (sym has.added)
        (most_more old.weave.entries has.entry old.weave.begun turn.behind.weave.begun step.so_far.most is_before.grown
        (let begun = is_before.begun in let is = has.number_is in omega (arith, begun, is)));
  }
  so_far_later (Entering.earlier before has) = so_far_quiet has
  so_far_later (Entering.to_enter before behind has) = so_far_quiet has

  grown : Enter → (more : List Entry) × (turn.behind.weave.entries ≡ old.weave.entries ++ more)
  grown (Entering.now before behind has) = (has.entry ∷ [], has.added)
  grown (Entering.earlier before has) = ([], has.same ∙ sym (append-nil old.weave.entries))
  grown (Entering.to_enter before behind has) = ([], has.same ∙ sym (append-nil old.weave.entries))

  -- ---- its own call

  abbrev StandsBehind : WeaveReply → Type 0
  StandsBehind answer = StandsAmong turn.behind.weave.entries (length turn.behind.weave.entries) turn.session own answer

  own_stands : Enter → is_entered_behind left ≡ true → (answer : WeaveReply) × IsToldAs turn.reply answer × StandsBehind answer
  own_stands (Entering.now before behind has) is = (
    has.entry.reply,
    has.told,
    subst (λ (l : List Entry). StandsAmong l (length l) turn.session own has.entry.reply) (sym has.added)
        (stands_last old.weave.entries has.entry turn.session own has.session_is has.number_is),
  )
  own_stands (Entering.earlier before has) is = (
    Plain Done,
    told_done turn.reply has.told,
    subst (λ (l : List Entry). StandsAmong l (length l) turn.session own (Plain Done)) (sym has.same) (is_before.stands before),
  )
  own_stands (Entering.to_enter before behind has) is = absurd (cc (behind, is))

  own_none : Enter → is_entered_behind left ≡ false → HasNone turn.behind.weave.entries own
  own_none (Entering.now before behind has) is = absurd (cc (behind, is))
  own_none (Entering.earlier before has) is = let still = stays_entered before (ap length has.same) in absurd (cc (still, is))
  own_none (Entering.to_enter before behind has) is = subst (λ (l : List Entry). HasNone l own) (sym has.same) (is_before.none before)

  ended : (number : ℕ) (reply : WeaveReply) → turn.reply ≡ Ended number reply → IsWhole reply
      → StandsAmong turn.behind.weave.entries (length turn.behind.weave.entries) turn.session number reply
  ended number reply is whole =
      let gone : IsLeftAs (Ended number reply) own left = subst (λ (r : StepReply). IsLeftAs r own left) is step.steps.left in
      let (answer, told, stands) = own_stands enter (ap is_entered_behind gone.0) in
      let same : reply ≡ answer = subst (λ (r : StepReply). IsToldAs r answer) is told in
      subst (λ (r : WeaveReply). StandsAmong turn.behind.weave.entries (length turn.behind.weave.entries) turn.session number r) (sym same)
      (subst (λ (n : ℕ). StandsAmong turn.behind.weave.entries (length turn.behind.weave.entries) turn.session n answer) (sym gone.1) stands)

  -- ---- the others

  other_none : Enter → (number : ℕ) → (own ≡ number → ⊥) → HasNone old.weave.entries number → HasNone turn.behind.weave.entries number
  other_none (Entering.now before behind has) number other none =
      subst (λ (l : List Entry). HasNone l number) (sym has.added) (none_more old.weave.entries has.entry number none (λ same. other (sym has.number_is ∙ same)))
  other_none (Entering.earlier before has) number other none = subst (λ (l : List Entry). HasNone l number) (sym has.same) none
  other_none (Entering.to_enter before behind has) number other none = subst (λ (l : List Entry). HasNone l number) (sym has.same) none

  other_stands : (s number : ℕ) (answer : WeaveReply) → StandsAmong old.weave.entries (length old.weave.entries) s number answer
      → StandsAmong turn.behind.weave.entries (length turn.behind.weave.entries) s number answer
  other_stands s number answer stands =
      let (more, is) = grown enter in
      subst (λ (l : List Entry). StandsAmong l (length l) s number answer) (sym is) (stands_more old.weave.entries more s number answer stands)

  -- ---- the calls that run behind it

  runs_now : (s : ℕ) (call : Call) → call_at turn.behind.calls s ≡ Some call
      → ((s ≡ turn.session) × (left ≡ Some call)) ⊎ ((s ≡ turn.session → ⊥) × (call_at old.calls s ≡ Some call))
  runs_now s call runs =
      let later : call_at step.steps.later_calls s ≡ Some call = ap (λ (calls : Calls). call_at calls s) (sym step.calls) ∙ runs in
      elim (cases_eq s turn.session) [
        | inl here ↦ inl (here, ap (call_at step.steps.later_calls) (sym here) ∙ later)
        | inr there ↦ inr (there, sym (step.steps.others s there) ∙ later)
      ]

  left_as : (call : Call) → left ≡ Some call → IsLeftAs turn.reply own (Some call)
  left_as call is = subst (IsLeftAs turn.reply own) is step.steps.left

  called : (was : Option Call) (call : Call) → call_at old.calls turn.session ≡ was → IsCallAt was (Some call) turn.line old.history.tree → turn.line ≡ Ok call.command
  called None call runs is = is.0
  called (Some first) call runs is = line_of_call first runs ∙ ap Ok (sym is.command)

  line_later : (s : ℕ) (call : Call) → call_at turn.behind.calls s ≡ Some call → lines call.number ≡ Ok call.command
  line_later s call runs = elim (runs_now s call runs) [
    | inl here ↦
        ap lines (left_number turn.reply own call (left_as call here.1)) ∙ is_before.line
        ∙ called ran call refl (subst (λ (l : Option Call). IsCallAt ran l turn.line old.history.tree) here.1 step.steps.call_is)
    | inr there ↦ step.goes.line s call there.1
  ]

  to_stand_later : (s : ℕ) (call : Call) → call_at turn.behind.calls s ≡ Some call → has_committed call.running ≡ false → HasNone turn.behind.weave.entries call.number
  to_stand_later s call runs none = elim (runs_now s call runs) [
    | inl here ↦
        subst (HasNone turn.behind.weave.entries) (sym (left_number turn.reply own call (left_as call here.1)))
        (own_none enter (ap is_entered_behind here.1 ∙ none))
    | inr there ↦ other_none enter call.number (is_before.others s call there.0 there.1) (step.goes.to_stand s call there.1 none)
  ]

  stands_here : (s : ℕ) (call : Call) → s ≡ turn.session → left ≡ Some call → has_committed call.running ≡ true
      → StandsAmong turn.behind.weave.entries (length turn.behind.weave.entries) s call.number (Plain Done)
  stands_here s call here is committed =
      let (answer, told, stands) = own_stands enter (ap is_entered_behind is ∙ committed) in
      let left_is = left_as call is in
      subst (λ (k : ℕ). StandsAmong turn.behind.weave.entries (length turn.behind.weave.entries) k call.number (Plain Done)) (sym here)
      (subst (λ (n : ℕ). StandsAmong turn.behind.weave.entries (length turn.behind.weave.entries) turn.session n (Plain Done)) (sym (left_number turn.reply own call left_is))
      (subst StandsBehind (left_done turn.reply own call answer left_is told) stands))

  stands_later : (s : ℕ) (call : Call) → call_at turn.behind.calls s ≡ Some call → has_committed call.running ≡ true
      → StandsAmong turn.behind.weave.entries (length turn.behind.weave.entries) s call.number (Plain Done)
  stands_later s call runs committed = elim (runs_now s call runs) [
    | inl here ↦ stands_here s call here.0 here.1 committed
    | inr there ↦ other_stands s call.number (Plain Done) (step.goes.stands s call there.1 committed)
  ]

  goes_later : Goes lines (passed ++ turn ∷ []) turn.behind
  goes_later = record {
    below =
        let grown = is_before.grown in
        let begun = is_before.begun in
        let number = reply_number turn.reply own left step.steps.left in
        below_more (old.weave.begun + 1) (turn.behind.weave.begun + 1) passed turn step.goes.below (omega (arith, grown)) (omega (arith, begun, number));
    counted = ap (λ (calls : Calls). length turn.behind.weave.entries + to_come calls) step.calls ∙ counted_later enter;
    line = line_later;
    to_stand = to_stand_later;
    stands = stands_later;
  }

  pub step_stands : TurnStands start lines passed old turn
  step_stands = record {
    so_far = so_far_later enter;
    goes = λ going. goes_later;
    more = (grown enter).0;
    grown = (grown enter).1;
    ended = ended;
  }

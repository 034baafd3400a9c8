-- The step of a session is a turn, with what is written of it.
use Rattle.std.proofs.Common.{◌≡◌, ℕ, ◌<◌, true, false, List, None, Some, is_some, inl, inr, refl, sym, ap, subst, arith}
use Rattle.std.specs.Prelude.{Ok, Err}
use Rattle.std.proofs.lemmas.Bool.{cases_Bool}
use mathlib.Core.Bool.{Bool-set}
use Rattle.pm_trait.specs.DeviceView.{DeviceView}
use Rattle.tree_model.specs.Run.{State, Line}
use Rattle.tree_model.specs.Tree.{Tree}
use Rattle.tree_model.specs.declared.reply.Reply.TheVariants.{Fault, Stopped}
use Rattle.session_laws.specs.Calls.{Calls}
use Rattle.session_lines.specs.Turns.{LeftView, next_line, turn_of}
use Rattle.sessions.specs.Interleave.{InterleaveView}
use Rattle.sessions.specs.Laws.{TellsLaw}
use Rattle.sessions.specs.Steps.{GivesSame, MayChange, MayStep, IsAsked, Steps, IsStopped}
use Rattle.sessions.specs.Tasks.{task_in}
use Rattle.sessions.specs.Texts.{IsTold}
use Rattle.sessions.specs.declared.entry.StepReply.{StepReply}
use Rattle.sessions.specs.declared.entry.StepReply.TheVariants.{Ended}
use Rattle.sessions.specs.declared.entry.WeaveReply.{WeaveReply}
use Rattle.sessions.specs.declared.entry.WeaveReply.TheVariants.{Plain}
use Rattle.sessions.specs.declared.interleave.TheConstants.{MOST_CALLS}
use Rattle.schedules.specs.Borders.{AllStand, IsBorder, border_of}
use Rattle.schedules.specs.Turns.{Border, Turn, IsTurn, left_behind}
use Rattle.schedules.proofs.Begins.{begins_line}
use Rattle.schedules.proofs.LinesLeft.{next_change}

-- ---- what the step asks for

may_change : (border : Border) (session : ℕ) (line : Line) → AllStand border → next_line border.left.lines session ≡ Some line → MayChange border.weave.volume line
may_change border session (Ok command) stands next = λ change. stands.unmarked (next_change border.left.lines session (Ok command) next change)
may_change border session (Err fault) stands next = tt

gives_same : (border : Border) (session : ℕ) (line : Line) → AllStand border → next_line border.left.lines session ≡ Some line → GivesSame border.calls session line
gives_same border session line stands next call runs = let same = stands.same session call runs in cc

pub may_step : (border : Border) (session : ℕ) (line : Line) → AllStand border → next_line border.left.lines session ≡ Some line
    → MayStep border.weave border.device border.calls border.history session line
may_step border session line stands next =
    record { weaving = stands.weaving; same = gives_same border session line stands next; change = may_change border session line stands next }

pub is_asked : (border : Border) (session : ℕ) (line : Line) → AllStand border → next_line border.left.lines session ≡ Some line → IsAsked border.weave border.device session line
is_asked border session line stands next = (border.calls, border.history, may_step border session line stands next)

-- a call that begins is one of those to begin
pub few_begun : (border : Border) (session : ℕ) (line : Line) → IsBorder border → next_line border.left.lines session ≡ Some line → task_in border.weave.tasks session ≡ None
    → border.weave.begun < MOST_CALLS
few_begun border session line is_border next none =
    let begins = begins_line border.weave.tasks border.left.lines session line next (ap is_some none) in
    let few = is_border.calls in
    omega (arith, begins, few)

-- ---- the turn

-- what stands behind it, and what a reply may be written by
pub record IsTurnOf (schedule : List ℕ) (count : ℕ) (old : Border) (new : InterleaveView) (after : DeviceView) (session : ℕ) (line : Line) (reply : StepReply) (left : LeftView) : Type 0 where
  pub calls : Calls
  pub history : State
  pub is_turn : IsTurn schedule count old (record { session = session; line = line; reply = reply; behind = border_of new after calls history left })

module _ (schedule : List ℕ) (count : ℕ) (old : Border) (new : InterleaveView) (after : DeviceView) (session : ℕ) (line : Line) (reply : StepReply) (left : LeftView)
    (whose : turn_of schedule count old.left ≡ Some session) (next : next_line old.left.lines session ≡ Some line) (left_is : left ≡ left_behind old.left session reply) where
  abbrev turn_with : Calls → State → Turn
  turn_with calls history = record { session = session; line = line; reply = reply; behind = border_of new after calls history left }

  pub still_turn : old.weave.volume.stopped ≡ true → IsStopped old.weave new session reply → after ≡ old.device → IsTurnOf schedule count old new after session line reply left
  still_turn was still device = record {
    calls = old.calls;
    history = old.history;
    is_turn = record {
      whose = whose;
      line_is = next;
      left = left_is;
      going = λ going. absurd (cc (was, going));
      still = λ halted. record { still = still; device = device; calls = refl; history = refl };
    };
  }

  module _ (was : old.weave.volume.stopped ≡ false) (steps : Steps old.weave new old.device after old.calls old.history session line reply) where
    failed_turn : new.volume.stopped ≡ true → IsTurnOf schedule count old new after session line reply left
    failed_turn is = record {
      calls = old.calls;
      history = old.history;
      is_turn = record {
        whose = whose;
        line_is = next;
        left = left_is;
        going = λ going. record {
          steps = steps;
          calls = λ goes. absurd (cc (is, goes));
          history = λ goes. absurd (cc (is, goes));
          calls_kept = λ halted. refl;
          history_kept = λ halted. refl;
        };
        still = λ halted. absurd (cc (was, halted));
      };
    }

    same_steps : (is goes : new.volume.stopped ≡ false) → is ≡ goes
    same_steps is goes = Bool-set new.volume.stopped false is goes

    going_turn : new.volume.stopped ≡ false → IsTurnOf schedule count old new after session line reply left
    going_turn is = record {
      calls = (steps.going is).later_calls;
      history = (steps.going is).later;
      is_turn = record {
        whose = whose;
        line_is = next;
        left = left_is;
        going = λ going. record {
          steps = steps;
          calls = λ goes. ap (λ (it : new.volume.stopped ≡ false). (steps.going it).later_calls) (same_steps is goes);
          history = λ goes. ap (λ (it : new.volume.stopped ≡ false). (steps.going it).later) (same_steps is goes);
          calls_kept = λ halted. absurd (cc (is, halted));
          history_kept = λ halted. absurd (cc (is, halted));
        };
        still = λ halted. absurd (cc (was, halted));
      };
    }

    pub step_turn : IsTurnOf schedule count old new after session line reply left
    step_turn = elim (cases_Bool new.volume.stopped) [ inl is ↦ failed_turn is | inr is ↦ going_turn is ]

-- ---- its reply

-- that a fence failed is told of nothing
told_fault : (weave : InterleaveView) (device : DeviceView) (T : Tree) (line : Line) (answer : WeaveReply) → answer ≡ Plain Fault → IsTold weave device T line answer
told_fault weave device T line answer is = subst (IsTold weave device T line) (sym is) (record { reply_is = refl; told = tt })

told_stopped : (weave : InterleaveView) (device : DeviceView) (T : Tree) (line : Line) (answer : WeaveReply) → answer ≡ Plain Stopped → IsTold weave device T line answer
told_stopped weave device T line answer is = subst (IsTold weave device T line) (sym is) (record { reply_is = refl; told = tt })

same_answer : (number other : ℕ) (answer told : WeaveReply) → Ended number answer ≡ Ended other told → answer ≡ told
same_answer number other answer told same = cc

pub still_told : (old new : InterleaveView) (device : DeviceView) (T : Tree) (session : ℕ) (line : Line) (number : ℕ) (answer : WeaveReply)
    → IsStopped old new session (Ended number answer) → IsTold new device T line answer
still_told old new device T session line number answer still = told_stopped new device T line answer (same_answer number _ answer (Plain Stopped) still.told)

pub step_told : TellsLaw → (old new : InterleaveView) (before after : DeviceView) (calls : Calls) (history : State) (session : ℕ) (line : Line) (number : ℕ) (answer : WeaveReply)
    → Steps old new before after calls history session line (Ended number answer) → IsTold new after history.tree line answer
step_told tells old new before after calls history session line number answer steps = elim (cases_Bool new.volume.stopped) [
  | inl is ↦ told_fault new after history.tree line answer (same_answer number _ answer (Plain Fault) (steps.failed is).told)
  | inr is ↦ tells old new before after calls history session line number answer (steps.going is)
]

-- ---- whatever came before

module _ (schedule : List ℕ) (count : ℕ) (old : Border) (new : InterleaveView) (after : DeviceView) (session : ℕ) (line : Line) (reply : StepReply)
    (is_border : IsBorder old) (next : next_line old.left.lines session ≡ Some line)
    (stopped : old.weave.volume.stopped ≡ true → IsStopped old.weave new session reply × (after ≡ old.device))
    (made : old.weave.volume.stopped ≡ false → MayStep old.weave old.device old.calls old.history session line
    → Steps old.weave new old.device after old.calls old.history session line reply) where
  steps : old.weave.volume.stopped ≡ false → Steps old.weave new old.device after old.calls old.history session line reply
  steps was = made was (may_step old session line (is_border.going was) next)

  pub is_turn_of : (left : LeftView) → turn_of schedule count old.left ≡ Some session → left ≡ left_behind old.left session reply
      → IsTurnOf schedule count old new after session line reply left
  is_turn_of left whose left_is = elim (cases_Bool old.weave.volume.stopped) [
    | inl was ↦ let (still, device) = stopped was in still_turn schedule count old new after session line reply left whose next left_is was still device
    | inr was ↦ step_turn schedule count old new after session line reply left whose next left_is was (steps was)
  ]

  pub is_told : TellsLaw → (number : ℕ) (answer : WeaveReply) → reply ≡ Ended number answer → IsTold new after old.history.tree line answer
  is_told tells number answer is = elim (cases_Bool old.weave.volume.stopped) [
    | inl was ↦ still_told old.weave new after old.history.tree session line number answer (subst (IsStopped old.weave new session) is (stopped was).0)
    | inr was ↦
        step_told tells old.weave new old.device after old.calls old.history session line number answer
        (subst (Steps old.weave new old.device after old.calls old.history session line) is (steps was))
  ]

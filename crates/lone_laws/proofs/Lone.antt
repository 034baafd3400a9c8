-- The turns of one session answer its lines as a run may.
use Rattle.std.proofs.Common.{◌≡◌, inl, inr, ℕ, ◌+◌, true, false, List, [], ◌∷◌, length, Option, None, Some, refl, sym, ap, subst, ◌∙◌, arith}
use Rattle.std.proofs.lemmas.Bool.{cases_Bool}
use Rattle.tree_model.specs.Run.{State, Line}
use Rattle.tree_model.specs.Step.{Answer, Fault}
use Rattle.tree_model.specs.declared.reply.Reply.TheVariants as replies
use Rattle.engine.specs.Run.{Run, last_state}
use Rattle.session_laws.specs.Calls.{Call, AreIdle, call_at}
use Rattle.sessions.specs.Steps.{number_of}
use Rattle.schedules.specs.Laws.{IsFirst}
use Rattle.schedules.specs.Turns.{Border, Turn, IsTurn, AreTurns, border_behind}
use Rattle.lone_laws.specs.Lone.{LoneLaw}
use Rattle.lone_laws.proofs.Continues.{goes_alone}
use Rattle.lone_laws.proofs.Going.{GoesAlone, Leaves}
use Rattle.lone_laws.proofs.Halted.{AreStopped, fails_alone, stopped_alone}
use Rattle.lone_laws.proofs.Lines.{IsLone, TakesLines, only, line_is, lone_behind, runs_on, has_ended}
use Rattle.lone_laws.proofs.Phases.{Stands}

-- A run from this state may give them these answers.
abbrev AreRun : ℕ → State → Border → List Line → List Answer → Type 0
AreRun P base end taken answers =
    (states : List State) × Run P base taken answers states × (end.weave.volume.stopped ≡ false → AreIdle end.calls → end.history ≡ last_state base states)

-- ---- one turn

module _ (P : ℕ) (base : State) (schedule : List ℕ) (count : ℕ) (old : Border) (turn : Turn) (lone : IsLone old) (is : IsTurn schedule count old turn)
    (size : old.weave.volume.size ≡ P) (going : old.weave.volume.stopped ≡ false) (stands : Stands P base old) where
  one_task : length old.weave.tasks ≡ 1
  one_task = lone.stands.sessions ∙ lone.one

  -- its fence succeeds
  went : turn.behind.weave.volume.stopped ≡ false → Leaves P base old turn
  went on = goes_alone P base old turn (at_first (only schedule count old turn lone is)) stands
    where
      here : GoesAlone P old turn turn.session
      here = record {
        size = size;
        all = lone.stands.going going;
        one = one_task;
        line_is = is.line_is;
        on = (is.going going).steps.going on;
        calls = (is.going going).calls on;
        history = (is.going going).history on;
      }

      at_first : turn.session ≡ 0 → GoesAlone P old turn 0
      at_first only = subst (GoesAlone P old turn) only here

  goes : (turns : List Turn) → turn.behind.weave.volume.stopped ≡ false → ((later : State) → Stands P later turn.behind → TakesLines (AreRun P later (border_behind turn.behind turns)) turn.behind turns)
      → TakesLines (AreRun P base (border_behind turn.behind turns)) old (turn ∷ turns)
  goes turns on rest = elim (went on) [
    | Leaves.runs number told behind ↦ runs_on schedule count old turn lone is number told (AreRun P base (border_behind turn.behind turns)) turns (rest base behind)
    | Leaves.ends number reply answer told means step behind ↦
        has_ended schedule count old turn lone is number reply answer told means (AreRun P base (border_behind turn.behind turns)) (AreRun P turn.behind.history (border_behind turn.behind turns)) turns
        (λ taken answers run. (turn.behind.history ∷ run.0, (step, run.1), run.2)) (rest turn.behind.history behind)
  ]

  -- its fence fails
  fails : (turns : List Turn) → turn.behind.weave.volume.stopped ≡ true → TakesLines AreStopped turn.behind turns × ((border_behind turn.behind turns).weave.volume.stopped ≡ true) → TakesLines (AreRun P base (border_behind turn.behind turns)) old (turn ∷ turns)
  fails turns halted rest =
      let fails = (is.going going).steps.failed halted in
      let fault = fails_alone P base old turn.line size (lone.stands.going going) one_task (line_is schedule count old turn lone is)
      (λ none. fails.began (ap (call_at old.calls) (only schedule count old turn lone is) ∙ none)) stands in
      has_ended schedule count old turn lone is (number_of old.weave.begun (call_at old.calls turn.session)) replies.Fault Fault fails.told refl (AreRun P base (border_behind turn.behind turns)) AreStopped turns
      (λ taken answers stopped. ([], (fault, stopped), λ on. let halts = rest.1 in absurd (cc (on, halts)))) rest.0

  size_behind : turn.behind.weave.volume.size ≡ P
  size_behind = (is.going going).steps.frame.size ∙ size

same_base : (P : ℕ) (base : State) (now : Border) → Stands P base now → call_at now.calls 0 ≡ None → now.history ≡ base
same_base P base now (Stands.idle none same counted) is = same
same_base P base now (Stands.waits call runs carried waits same counted) is = same
same_base P base now (Stands.has_entry call runs carried committed step counted) is = absurd (cc (is, runs))

-- ---- all of them

lone_turns : (P : ℕ) (base : State) (schedule : List ℕ) (count : ℕ) (now : Border) (turns : List Turn) → IsLone now → now.weave.volume.size ≡ P → now.weave.volume.stopped ≡ false
    → Stands P base now → AreTurns schedule count now turns → TakesLines (AreRun P base (border_behind now turns)) now turns
lone_turns P base schedule count now [] lone size going stands are = record { taken = []; lines = refl; answers = []; given = ([], tt, λ on none. same_base P base now stands (none 0)); texts = refl }
lone_turns P base schedule count now (turn ∷ turns) lone size going stands (is, later) =
    let behind = lone_behind schedule count now turn lone is in
    let further = λ (on : turn.behind.weave.volume.stopped ≡ false) (state : State) (stood : Stands P state turn.behind).
    lone_turns P state schedule (count + 1) turn.behind turns behind (size_behind P base schedule count now turn lone is size going stands) on stood later in
    elim (cases_Bool turn.behind.weave.volume.stopped) [
      | inl halted ↦ fails P base schedule count now turn lone is size going stands turns halted (stopped_alone schedule (count + 1) turn.behind turns behind halted later)
      | inr on ↦ goes P base schedule count now turn lone is size going stands turns on (further on)
    ]

-- ---- from a first border on

no_call : (start : Border) → IsFirst start → (ran : Option Call) → call_at start.calls 0 ≡ ran → ran ≡ None
no_call start first None runs = refl
no_call start first (Some call) runs =
    let numbered = (first.border.going first.going).weaving.numbered in
    let least = numbered.least 0 call runs in
    let most = numbered.most 0 call runs in
    let none = first.unbegun in
    absurd (omega (arith, least, most, none))

pub lone_law : LoneLaw
lone_law schedule start turns first one of are =
    let all = lone_turns start.weave.volume.size start.history schedule 0 start turns (record { stands = first.border; one = one; of = of }) refl first.going
    (Stands.idle (no_call start first (call_at start.calls 0) refl) refl (ap length first.none ∙ sym first.unbegun)) are in
    record { taken = all.taken; lines = all.lines; answers = all.answers; states = all.given.0; run = all.given.1; texts = all.texts; last = all.given.2 }

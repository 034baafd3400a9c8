-- From the start of sessions on a first turn may be taken.
use Rattle.std.proofs.Common.{◌≡◌, ℕ, zero, suc, ◌*◌, ◌<◌, ◌≤◌, Bool, true, false, if◌then◌else◌, List, [], ◌∷◌, length, map, replicate, refl, sym, ap, ◌∙◌, arith}
use Rattle.std.specs.Prelude.{Option, None, Some, nat_lt}
use Rattle.std.proofs.lemmas.Bool.{ltb-true}
use Rattle.std.proofs.lemmas.List.{length-replicate}
use Rattle.pm_trait.specs.DeviceView.{DeviceView}
use Rattle.tree_model.specs.Run.{State}
use Rattle.script.specs.Lines.{line_limit, lines_of, words_of, number_of, of_words}
use Rattle.script.specs.SessionLines.{no_session, session_calls, session_call, of_session_words, of_number}
use Rattle.volume.specs.Volume.{VolumeView}
use Rattle.volume.specs.Stands.{StandsFor}
use Rattle.session_laws.specs.Calls.{Call, call_at}
use Rattle.session_lines.specs.Turns.{LeftView, has_change}
use Rattle.sessions.specs.Interleave.{started}
use Rattle.sessions.specs.Laws.{StartsLaw}
use Rattle.sessions.specs.Tasks.{task_in}
use Rattle.sessions.specs.declared.interleave.TheConstants.{MOST_CALLS}
use Rattle.sessions.specs.declared.task.Task.{Task}
use Rattle.schedules.specs.Borders.{AllStand, IsBorder, AreOfSessions, border_of, most_turns, turns_left, turns_running}
use Rattle.schedules.specs.Laws.{IsFirst}
use Rattle.schedules.specs.Turns.{Border}
use Rattle.schedules.proofs.Begins.{begins_few, begins_none}
use Rattle.schedules.proofs.Counts.{idle_turns, no_turns, no_tasks, task_at, as_task}
use Rattle.schedules.proofs.GoingTurns.{running_going}
use Rattle.schedules.proofs.HaltedTurns.{running_halted}

no_call : (n s : ℕ) → call_at (replicate n None) s ≡ None
no_call zero s = refl
no_call (suc n) zero = refl
no_call (suc n) (suc s) = no_call n s

no_task : (n s : ℕ) → task_in (replicate n None) s ≡ None
no_task zero s = refl
no_task (suc n) zero = refl
no_task (suc n) (suc s) = no_task n s

module _ (starts : StartsLaw) (volume : VolumeView) (device : DeviceView) (state : State) (left : LeftView) (stands : StandsFor volume device state) (going : volume.stopped ≡ false)
    (some : 1 ≤ left.sessions) (few : left.sessions ≤ 16) (unmarked : has_change left.lines ≡ true → volume.marked ≡ false) (short : length left.lines ≤ MOST_CALLS) where
  abbrev start : Border
  start = border_of (started volume left.sessions) device (replicate left.sessions None) state left

  all_stand : AllStand start
  all_stand = record {
    weaving = starts volume device state left.sessions stands going few;
    same = λ s call runs. let none = no_call left.sessions s in absurd (cc (none, runs));
    unmarked = unmarked;
  }

  pub is_first : IsFirst start
  is_first = record {
    border = record {
      going = λ is. all_stand;
      sessions = length-replicate left.sessions None;
      few = few;
      some = some;
      runs = λ s task runs. let none = no_task left.sessions s in absurd (cc (none, runs));
      calls = let fewer = begins_few (replicate left.sessions None) left.lines in omega (arith, fewer, short);
    };
    none = refl;
    unbegun = refl;
    going = going;
  }

-- ---- how many turns may come

none_runs : (start : Border) → IsFirst start → (s : ℕ) (ran : Option Call) → call_at start.calls s ≡ ran → ran ≡ None
none_runs start first s None runs = refl
none_runs start first s (Some call) runs =
    let numbered = (first.border.going first.going).weaving.numbered in
    let least = numbered.least s call runs in
    let most = numbered.most s call runs in
    let none = first.unbegun in
    absurd (omega (arith, least, most, none))

pub few_turns : (start : Border) → IsFirst start → turns_left start ≤ most_turns * MOST_CALLS
few_turns start first =
    let none = idle_turns start.weave.volume start.calls (λ s. none_runs start first s (call_at start.calls s) refl) in
    let running = running_going start first.going in
    let few = first.border.calls in
    omega (arith, none, running, few)

idle : (border : Border) → IsBorder border → (stopped : Bool) → border.weave.volume.stopped ≡ stopped → turns_running border ≡ 0 → (s : ℕ) → task_in border.weave.tasks s ≡ None
idle border is_border true halted none s = no_tasks border.weave.tasks s (sym (running_halted border halted) ∙ none)
idle border is_border false going none s =
    ap (λ (tasks : List (Option Task)). task_in tasks s) (is_border.going going).weaving.tasks ∙ task_at border.calls s
    ∙ ap as_task (no_turns border.weave.volume border.calls s (sym (running_going border going) ∙ none))

-- where none may come no line is left
pub no_line : (border : Border) → IsBorder border → turns_left border ≡ 0 → border.left.lines ≡ []
no_line border is_border none =
    begins_none border.weave.tasks border.left.lines (idle border is_border border.weave.volume.stopped refl (omega (arith, none))) (omega (arith, none))

-- ---- the lines of a script

number_below : (sessions : ℕ) (number : Option ℕ) (words : List (List ℕ)) → 0 < sessions → (of_number sessions number words).0 < sessions
number_below sessions None words some = some
number_below sessions (Some session) words some =
    elim (nat_lt session sessions) as (λ (t : Bool). nat_lt session sessions ≡ t → (if t then (session, of_words words) else no_session).0 < sessions) [
      | true ↦ λ is. ltb-true session sessions is
      | false ↦ λ is. some
    ] refl

words_below : (sessions : ℕ) (words : List (List ℕ)) → 0 < sessions → (of_session_words sessions words).0 < sessions
words_below sessions [] some = some
words_below sessions (word ∷ words) some = number_below sessions (number_of word) words some

call_below : (sessions : ℕ) (line : List ℕ) → 0 < sessions → (session_call sessions line).0 < sessions
call_below sessions line some =
    elim (nat_lt line_limit (length line)) as (λ (t : Bool). (if t then no_session else of_session_words sessions (words_of line)).0 < sessions) [
      | true ↦ some
      | false ↦ words_below sessions (words_of line) some
    ]

lines_below : (sessions : ℕ) (lines : List (List ℕ)) → 0 < sessions → AreOfSessions sessions (map (session_call sessions) lines)
lines_below sessions [] some = tt
lines_below sessions (line ∷ lines) some = (call_below sessions line some, lines_below sessions lines some)

pub calls_below : (sessions : ℕ) (script : List ℕ) → 0 < sessions → AreOfSessions sessions (session_calls sessions script)
calls_below sessions script some = lines_below sessions (lines_of script) some

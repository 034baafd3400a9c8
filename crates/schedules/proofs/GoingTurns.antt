-- Behind a turn whose step went on all stands again, and a turn fewer may come.
use Rattle.std.proofs.Common.{◌≡◌, inl, inr, ℕ, ◌+◌, ◌*◌, ◌<◌, Bool, false, if◌then◌else◌, List, length, Option, None, Some, is_some, refl, sym, ap, subst, ◌∙◌, arith}
use Rattle.std.specs.Prelude.{Ok}
use Rattle.std.proofs.lemmas.Bool.{cases_eq}
use Rattle.tree_model.specs.Run.{State, Line}
use Rattle.tree_model.specs.Tree.{Tree}
use Rattle.tree_model.specs.declared.command.Command.{Command}
use Rattle.volume.specs.Volume.{VolumeView}
use Rattle.session_laws.specs.Calls.{Call, Calls, call_at}
use Rattle.session_lines.specs.Turns.{LeftView, next_line, has_change}
use Rattle.sessions.specs.Interleave.{InterleaveView, IsWeaving, tasks_of}
use Rattle.sessions.specs.Steps.{StepsOn, IsLeftAs, IsCallAt, GetsOn, begun_after, number_of}
use Rattle.sessions.specs.Tasks.{task_in}
use Rattle.sessions.specs.declared.entry.StepReply.{StepReply}
use Rattle.sessions.specs.declared.entry.StepReply.TheVariants.{Running, Ended}
use Rattle.sessions.specs.declared.task.Task.{Task}
use Rattle.schedules.specs.Borders.{AllStand, IsBorder, to_begin, turns_of_calls, turns_of_tasks, turns_running, turns_left, most_turns}
use Rattle.schedules.specs.Turns.{Border, Turn, GoesOn, IsTurn, left_behind}
use Rattle.schedules.specs.Laws.{IsTaken}
use Rattle.schedules.proofs.Acks.{acks_step}
use Rattle.schedules.proofs.Begins.{Tasks, runs_on, begins_of, begins_behind}
use Rattle.schedules.proofs.Counts.{turns_of_one, turns_other, task_at, runs_task, task_runs}
use Rattle.schedules.proofs.Fences.{call_few}
use Rattle.schedules.proofs.LinesLeft.{sessions_behind, next_behind, change_behind}

-- ---- counts

begun_more : (begun : ℕ) (ran : Option Call) → begun_after begun ran ≡ begun + begins_of (is_some ran)
begun_more begun None = refl
begun_more begun (Some call) = omega arith

left_runs : (reply : StepReply) (own : ℕ) (left : Option Call) → IsLeftAs reply own left → is_some left ≡ runs_on reply
left_runs (Running number) own left is = ap is_some is.1
left_runs (Ended number reply) own left is = ap is_some is.0

-- a call that begins has few fences left, and one that goes on has one less
falls : (old new : VolumeView) (ran left : Option Call) (begins more all later : ℕ) → GetsOn old new ran left → begins ≡ begins_of (is_some ran) + more
    → later + turns_of_one old ran ≡ all + turns_of_one new left → most_turns * more + later < most_turns * begins + all
falls old new None None begins more all later gets fewer turns = omega (arith, fewer, turns)
falls old new None (Some call) begins more all later gets fewer turns = let few = call_few new call in omega (arith, fewer, turns, few)
falls old new (Some ran) None begins more all later gets fewer turns = omega (arith, fewer, turns, gets)
falls old new (Some ran) (Some call) begins more all later gets fewer turns = omega (arith, fewer, turns, gets)

pub running_going : (border : Border) → border.weave.volume.stopped ≡ false → turns_running border ≡ turns_of_calls border.weave.volume border.calls
running_going border going = ap (λ (t : Bool). if t then turns_of_tasks border.weave.tasks else turns_of_calls border.weave.volume border.calls) going

-- ---- a session's call is its next line

-- one that ran is the same,
same_line : (ran : Option Call) (call : Call) (line : Line) (T : Tree) (found : Option Line) → IsCallAt ran (Some call) line T → found ≡ Some line
    → ((one : Call) → ran ≡ Some one → found ≡ Some (Ok one.command)) → found ≡ Some (Ok call.command)
same_line None call line T found is next same = next ∙ ap (λ (l : Line). Some l) is.0
same_line (Some one) call line T found is next same = same one refl ∙ ap (λ (c : Command). Some (Ok c)) (sym is.command)

-- one that has ended runs no more
same_behind : (left : LeftView) (session own : ℕ) (reply : StepReply) (ran now : Option Call) (call : Call) (line : Line) (T : Tree) → now ≡ Some call → IsLeftAs reply own now
    → IsCallAt ran now line T → next_line left.lines session ≡ Some line → ((one : Call) → ran ≡ Some one → next_line left.lines session ≡ Some (Ok one.command))
    → next_line (left_behind left session reply).lines session ≡ Some (Ok call.command)
same_behind left session own (Running number) ran now call line T runs is call_is next same =
    same_line ran call line T (next_line left.lines session) (subst (λ (one : Option Call). IsCallAt ran one line T) runs call_is) next same
same_behind left session own (Ended number reply) ran now call line T runs is call_is next same = let none = is.0 in cc

module _ (schedule : List ℕ) (count : ℕ) (old : Border) (turn : Turn) (border : IsBorder old) (is_turn : IsTurn schedule count old turn)
    (was : old.weave.volume.stopped ≡ false) (is : turn.behind.weave.volume.stopped ≡ false) where
  abbrev goes_on : GoesOn old turn
  goes_on = is_turn.going was

  abbrev on : StepsOn old.weave turn.behind.weave old.device turn.behind.device old.calls old.history turn.session turn.line turn.reply
  on = goes_on.steps.going is

  stands : AllStand old
  stands = border.going was

  calls_are : turn.behind.calls ≡ on.later_calls
  calls_are = goes_on.calls is

  weaving : IsWeaving turn.behind.weave turn.behind.device turn.behind.calls turn.behind.history
  weaving =
      subst (λ (calls : Calls). IsWeaving turn.behind.weave turn.behind.device calls turn.behind.history) (sym calls_are)
      (subst (λ (history : State). IsWeaving turn.behind.weave turn.behind.device on.later_calls history) (sym (goes_on.history is)) on.weaving)

  -- ---- the calls are those of the next lines

  same_later : (s : ℕ) (call : Call) → call_at on.later_calls s ≡ Some call → next_line (left_behind old.left turn.session turn.reply).lines s ≡ Some (Ok call.command)
  same_later s call runs = elim (cases_eq turn.session s) [
    | inl here ↦
        subst (λ (r : ℕ). next_line (left_behind old.left turn.session turn.reply).lines r ≡ Some (Ok call.command)) here
        (same_behind old.left turn.session (number_of old.weave.begun (call_at old.calls turn.session)) turn.reply (call_at old.calls turn.session) (call_at on.later_calls turn.session) call turn.line old.history.tree
        (ap (call_at on.later_calls) here ∙ runs) on.left on.call_is is_turn.line_is (stands.same turn.session))
    | inr apart ↦ next_behind old.left turn.session s turn.reply apart ∙ stands.same s call (sym (on.others s (λ same. apart (sym same))) ∙ runs)
  ]

  same : (s : ℕ) (call : Call) → call_at turn.behind.calls s ≡ Some call → next_line turn.behind.left.lines s ≡ Some (Ok call.command)
  same s call runs =
      ap (λ (left : LeftView). next_line left.lines s) is_turn.left ∙ same_later s call (ap (λ (calls : Calls). call_at calls s) (sym calls_are) ∙ runs)

  all_stand : AllStand turn.behind
  all_stand = record {
    weaving = weaving;
    same = same;
    unmarked = λ change.
        goes_on.steps.frame.marked
        ∙ stands.unmarked (change_behind old.left turn.session turn.reply (ap (λ (left : LeftView). has_change left.lines) (sym is_turn.left) ∙ change));
  }

  has_line : (s : ℕ) (task : Task) → task_in turn.behind.weave.tasks s ≡ Some task → (line : Line) × (next_line turn.behind.left.lines s ≡ Some line)
  has_line s task runs =
      let at = sym (task_at turn.behind.calls s) ∙ ap (λ (tasks : Tasks). task_in tasks s) (sym weaving.tasks) ∙ runs in
      let (call, ran) = task_runs (call_at turn.behind.calls s) task at in
      (Ok call.command, same s call ran)

  -- ---- how many

  runs_at : (s : ℕ) (weave : InterleaveView) (calls : Calls) → weave.tasks ≡ tasks_of calls → is_some (task_in weave.tasks s) ≡ is_some (call_at calls s)
  runs_at s weave calls tasks = ap (λ (all : Tasks). is_some (task_in all s)) tasks ∙ ap is_some (task_at calls s) ∙ runs_task (call_at calls s)

  others : (s : ℕ) → (turn.session ≡ s → ⊥) → is_some (task_in turn.behind.weave.tasks s) ≡ is_some (task_in old.weave.tasks s)
  others s apart =
      runs_at s turn.behind.weave on.later_calls on.weaving.tasks ∙ ap is_some (on.others s (λ same. apart (sym same))) ∙ sym (runs_at s old.weave old.calls stands.weaving.tasks)

  begins : to_begin old.weave.tasks old.left.lines ≡ begins_of (is_some (call_at old.calls turn.session)) + to_begin turn.behind.weave.tasks turn.behind.left.lines
  begins =
      begins_behind old.weave.tasks turn.behind.weave.tasks old.left turn.session turn.line is_turn.line_is others (is_some (call_at old.calls turn.session)) turn.reply
      (runs_at turn.session old.weave old.calls stands.weaving.tasks)
      (runs_at turn.session turn.behind.weave on.later_calls on.weaving.tasks ∙ left_runs turn.reply _ (call_at on.later_calls turn.session) on.left)
      ∙ ap (λ (left : LeftView). begins_of (is_some (call_at old.calls turn.session)) + to_begin turn.behind.weave.tasks left.lines) (sym is_turn.left)

  fewer : turns_left turn.behind < turns_left old
  fewer =
      let turns = turns_other old.weave.volume turn.behind.weave.volume old.calls on.later_calls turn.session on.others (λ s other apart runs. on.others_left s other apart runs) in
      let one = running_going old was in
      let other = running_going turn.behind is ∙ ap (turns_of_calls turn.behind.weave.volume) calls_are in
      let less = falls old.weave.volume turn.behind.weave.volume (call_at old.calls turn.session) (call_at on.later_calls turn.session) (to_begin old.weave.tasks old.left.lines)
      (to_begin turn.behind.weave.tasks turn.behind.left.lines) (turns_of_calls old.weave.volume old.calls) (turns_of_calls turn.behind.weave.volume on.later_calls) on.gets_on begins turns in
      omega (arith, one, other, less)

  sessions : length turn.behind.weave.tasks ≡ turn.behind.left.sessions
  sessions =
      goes_on.steps.frame.sessions ∙ border.sessions ∙ sym (sessions_behind old.left turn.session turn.reply) ∙ ap (λ (left : LeftView). left.sessions) (sym is_turn.left)

  sessions_same : turn.behind.left.sessions ≡ old.left.sessions
  sessions_same = ap (λ (left : LeftView). left.sessions) is_turn.left ∙ sessions_behind old.left turn.session turn.reply

  is_border : IsBorder turn.behind
  is_border =
      let same = sessions_same in
      let few = border.few in
      let some = border.some in
      let calls = border.calls in
      let fewer = begins in
      let begun = on.begun ∙ begun_more old.weave.begun (call_at old.calls turn.session) in
      record {
        going = λ going. all_stand;
        sessions = sessions;
        few = omega (arith, same, few);
        some = omega (arith, same, some);
        runs = has_line;
        calls = omega (arith, calls, fewer, begun);
      }

  pub going_taken : IsTaken old turn
  going_taken = record {
    border = is_border;
    fewer = fewer;
    fences = on.fences.most;
    acks = on.acks ∙ ap (λ (n : ℕ). old.device.acks + n) (sym (acks_step turn.reply on));
    size = goes_on.steps.frame.size;
    stays = λ stopped. absurd (cc (was, stopped));
    cause = λ going stopped. absurd (cc (is, stopped));
    no_fault = λ same. on.faults;
  }

-- Behind a turn whose fence failed, or an earlier one, its call has ended, and a turn fewer may come.
use Rattle.std.proofs.Common.{◌≡◌, inl, inr, ℕ, ◌+◌, ◌*◌, ◌<◌, ◌≤◌, Bool, true, false, if◌then◌else◌, List, length, length-set, set, Option, None, Some, is_some, refl, sym, ap, ◌∙◌, arith}
use Rattle.std.proofs.lemmas.Bool.{cases_eq}
use Rattle.pm_trait.specs.DeviceView.{DeviceView}
use Rattle.tree_model.specs.Run.{Line}
use Rattle.tree_model.specs.declared.reply.Reply.TheVariants.{Fault, Stopped}
use Rattle.volume.specs.Volume.{VolumeView}
use Rattle.session_laws.specs.Calls.{Call, call_at}
use Rattle.session_lines.specs.Turns.{LeftView, next_line}
use Rattle.sessions.specs.Steps.{begun_after, begun_in, number_of, number_in}
use Rattle.sessions.specs.Tasks.{task_in}
use Rattle.sessions.specs.declared.entry.StepReply.TheVariants.{Ended}
use Rattle.sessions.specs.declared.entry.WeaveReply.{WeaveReply}
use Rattle.sessions.specs.declared.entry.WeaveReply.TheVariants.{Plain}
use Rattle.sessions.specs.declared.task.Task.{Task}
use Rattle.schedules.specs.Borders.{IsBorder, to_begin, turns_of_calls, turns_of_tasks, turns_running, turns_left, most_turns}
use Rattle.schedules.specs.Crashes.{acks_in}
use Rattle.schedules.specs.Turns.{Border, Turn, IsTurn}
use Rattle.schedules.specs.Laws.{IsTaken}
use Rattle.schedules.proofs.Begins.{Tasks, task_other, task_gone, runs_on, begins_of, begins_behind}
use Rattle.schedules.proofs.Counts.{turns_of_task, tasks_apart, tasks_fewer, task_at, as_task}
use Rattle.schedules.proofs.GoingTurns.{running_going}
use Rattle.schedules.proofs.LinesLeft.{sessions_behind, next_behind}

begun_task : (begun : ℕ) (task : Option Task) → begun_in begun task ≡ begun + begins_of (is_some task)
begun_task begun None = refl
begun_task begun (Some task) = omega arith

begun_call : (begun : ℕ) (call : Option Call) → begun_after begun call ≡ begun + begins_of (is_some (as_task call))
begun_call begun None = refl
begun_call begun (Some call) = omega arith

-- a line is to begin no more, or a task has ended
falls : (task : Option Task) (begins more running tasks left : ℕ) → begins ≡ begins_of (is_some task) + more → tasks ≡ turns_of_task task + left → tasks ≤ running
    → most_turns * more + left < most_turns * begins + running
falls None begins more running tasks left fewer all few = omega (arith, fewer, all, few)
falls (Some task) begins more running tasks left fewer all few = omega (arith, fewer, all, few)

pub running_halted : (border : Border) → border.weave.volume.stopped ≡ true → turns_running border ≡ turns_of_tasks border.weave.tasks
running_halted border halted = ap (λ (t : Bool). if t then turns_of_tasks border.weave.tasks else turns_of_calls border.weave.volume border.calls) halted

-- as many turns may come at least as calls run
running_more : (border : Border) → IsBorder border → (stopped : Bool) → border.weave.volume.stopped ≡ stopped → turns_of_tasks border.weave.tasks ≤ turns_running border
running_more border is_border true halted = let all = running_halted border halted in omega (arith, all)
running_more border is_border false going =
    let tasks = ap turns_of_tasks (is_border.going going).weaving.tasks in
    let few = tasks_fewer border.weave.volume border.calls in
    let all = running_going border going in
    omega (arith, tasks, few, all)

module _ (schedule : List ℕ) (count : ℕ) (old : Border) (turn : Turn) (border : IsBorder old) (is_turn : IsTurn schedule count old turn)
    (is : turn.behind.weave.volume.stopped ≡ true) (number : ℕ) (reply : WeaveReply) (told : turn.reply ≡ Ended number reply)
    (tasks : turn.behind.weave.tasks ≡ set old.weave.tasks turn.session None)
    (begun : turn.behind.weave.begun ≡ old.weave.begun + begins_of (is_some (task_in old.weave.tasks turn.session))) where
  others : (s : ℕ) → (turn.session ≡ s → ⊥) → task_in turn.behind.weave.tasks s ≡ task_in old.weave.tasks s
  others s apart = ap (λ (all : Tasks). task_in all s) tasks ∙ task_other old.weave.tasks turn.session s None apart

  gone : task_in turn.behind.weave.tasks turn.session ≡ None
  gone = ap (λ (all : Tasks). task_in all turn.session) tasks ∙ task_gone old.weave.tasks turn.session

  begins : to_begin old.weave.tasks old.left.lines ≡ begins_of (is_some (task_in old.weave.tasks turn.session)) + to_begin turn.behind.weave.tasks turn.behind.left.lines
  begins =
      begins_behind old.weave.tasks turn.behind.weave.tasks old.left turn.session turn.line is_turn.line_is (λ s apart. ap is_some (others s apart))
      (is_some (task_in old.weave.tasks turn.session)) turn.reply refl (ap is_some gone ∙ sym (ap runs_on told))
      ∙ ap (λ (left : LeftView). begins_of (is_some (task_in old.weave.tasks turn.session)) + to_begin turn.behind.weave.tasks left.lines) (sym is_turn.left)

  pub fewer : turns_left turn.behind < turns_left old
  fewer =
      let apart = tasks_apart old.weave.tasks turn.session in
      let now = running_halted turn.behind is ∙ ap turns_of_tasks tasks in
      let less = falls (task_in old.weave.tasks turn.session) (to_begin old.weave.tasks old.left.lines) (to_begin turn.behind.weave.tasks turn.behind.left.lines) (turns_running old)
      (turns_of_tasks old.weave.tasks) (turns_of_tasks (set old.weave.tasks turn.session None)) begins apart (running_more old border old.weave.volume.stopped refl) in
      omega (arith, now, less)

  has_line : (s : ℕ) (task : Task) → task_in turn.behind.weave.tasks s ≡ Some task → (line : Line) × (next_line turn.behind.left.lines s ≡ Some line)
  has_line s task runs = elim (cases_eq turn.session s) [
    | inl here ↦ let none = ap (task_in turn.behind.weave.tasks) (sym here) ∙ gone in absurd (cc (none, runs))
    | inr apart ↦
        let (line, next) = border.runs s task (sym (others s apart) ∙ runs) in
        (line, ap (λ (left : LeftView). next_line left.lines s) is_turn.left ∙ next_behind old.left turn.session s turn.reply apart ∙ next)
  ]

  pub is_border : IsBorder turn.behind
  is_border =
      let same = ap (λ (left : LeftView). left.sessions) is_turn.left ∙ sessions_behind old.left turn.session turn.reply in
      let few = border.few in
      let some = border.some in
      let calls = border.calls in
      let fewer = begins in
      record {
        going = λ going. absurd (cc (going, is));
        sessions = ap length tasks ∙ length-set old.weave.tasks turn.session None ∙ border.sessions ∙ sym same;
        few = omega (arith, same, few);
        some = omega (arith, same, some);
        runs = has_line;
        calls = omega (arith, calls, fewer, begun);
      }

module _ (schedule : List ℕ) (count : ℕ) (old : Border) (turn : Turn) (border : IsBorder old) (is_turn : IsTurn schedule count old turn)
    (is : turn.behind.weave.volume.stopped ≡ true) where
  -- its fence failed,
  pub failed_taken : old.weave.volume.stopped ≡ false → IsTaken old turn
  failed_taken was =
      let goes_on = is_turn.going was in
      let failed = goes_on.steps.failed is in
      let ran = ap (λ (tasks : Tasks). task_in tasks turn.session) (border.going was).weaving.tasks ∙ task_at old.calls turn.session in
      let begun = failed.begun ∙ begun_call old.weave.begun (call_at old.calls turn.session)
      ∙ ap (λ (task : Option Task). old.weave.begun + begins_of (is_some task)) (sym ran) in
      let own = number_of old.weave.begun (call_at old.calls turn.session) in
      let fences = failed.fences in
      let none : acks_in turn.reply ≡ 0 = ap acks_in failed.told in
      let acks = failed.no_ack in
      record {
        border = is_border schedule count old turn border is_turn is own (Plain Fault) failed.told failed.tasks begun;
        fewer = fewer schedule count old turn border is_turn is own (Plain Fault) failed.told failed.tasks begun;
        fences = omega (arith, fences);
        acks = omega (arith, acks, none);
        size = goes_on.steps.frame.size;
        stays = λ stopped. absurd (cc (was, stopped));
        cause = λ going stopped. failed.cause;
        no_fault = λ same. absurd (cc (was, is, same));
      }

  -- or an earlier one had
  pub still_taken : old.weave.volume.stopped ≡ true → IsTaken old turn
  still_taken was =
      let stands = is_turn.still was in
      let still = stands.still in
      let begun = still.begun ∙ begun_task old.weave.begun (task_in old.weave.tasks turn.session) in
      let own = number_in old.weave.begun (task_in old.weave.tasks turn.session) in
      let fences = ap (λ (device : DeviceView). device.fences) stands.device in
      let acks = ap (λ (device : DeviceView). device.acks) stands.device in
      let none : acks_in turn.reply ≡ 0 = ap acks_in still.told in
      record {
        border = is_border schedule count old turn border is_turn is own (Plain Stopped) still.told still.tasks begun;
        fewer = fewer schedule count old turn border is_turn is own (Plain Stopped) still.told still.tasks begun;
        fences = omega (arith, fences);
        acks = omega (arith, acks, none);
        size = ap (λ (volume : VolumeView). volume.size) still.volume;
        stays = λ stopped. is;
        cause = λ going stopped. absurd (cc (was, going));
        no_fault = λ same. ap (λ (device : DeviceView). device.faults) stands.device;
      }

-- A session goes on with the call that it runs: what its step asks for stands, and on a stopped volume nothing is done.
use Rattle.std.proofs.Common.{◌≡◌, ℕ, ◌+◌, ◌-◌, ◌*◌, ◌^◌, ◌<◌, true, List, length, set, None, Some, Ok, refl, sym, ap, subst, ◌∙◌, arith}
use Rattle.std.proofs.lemmas.List.{set-set}
use Rattle.pm_trait.specs.DeviceView.{DeviceView}
use Rattle.pm_trait.specs.Unfolds.{MayFence}
use Rattle.tree_model.specs.Run.{State, Line}
use Rattle.tree_model.specs.declared.command.Command.{Command}
use Rattle.tree_model.specs.declared.reply.Reply.TheVariants.{Stopped}
use Rattle.running_calls.specs.declared.running.Running.{Running}
use Rattle.running_calls.specs.Stages.{StandsStage, step_of}
use Rattle.running_laws.specs.Steps.{commits, has_committed}
use Rattle.running_laws.specs.Waits.{bytes_of_command}
use Rattle.session_laws.specs.Calls.{Calls, fences_of_call}
use Rattle.session_laws.specs.Going.{GoOnAmongLaw}
use Rattle.session_laws.proofs.GoingOthers.{not_committed}
use Rattle.sessions.specs.Advanced.{HasAdvanced, enters_now, fences_of_task}
use Rattle.sessions.specs.Interleave.{InterleaveView, with_task}
use Rattle.sessions.specs.Laws.{OthersHoldLaw, GoesOnLaw}
use Rattle.sessions.specs.Steps.{MayStep, Steps, IsAsked, IsStopped, number_in, begun_in}
use Rattle.sessions.specs.Tasks.{HoldFew, task_in}
use Rattle.sessions.specs.declared.entry.StepReply.{StepReply}
use Rattle.sessions.specs.declared.entry.StepReply.TheVariants.{Ended}
use Rattle.sessions.specs.declared.entry.WeaveReply.TheVariants.{Plain}
use Rattle.sessions.specs.declared.task.Task.{Task}
use Rattle.sessions.proofs.AnswerTasks.{task_stays}
use Rattle.sessions.proofs.Goes.{stands_at}
use Rattle.sessions.proofs.GoesCounts.{enters_now_at_commit}
use Rattle.sessions.proofs.GoesKnown.{StandsAt}
use Rattle.sessions.proofs.WeavesOne.{task_put, tasks_without}
use Rattle.sessions.proofs.GoesLists.{IsRun, run_by, to_enter, to_come_at}

-- ---- on a stopped volume

pub is_stopped : (weave : InterleaveView) (session : ℕ) (task : Task) (reply : StepReply) → session < length weave.tasks → task_in weave.tasks session ≡ None
    → reply ≡ Ended task.number (Plain Stopped) → IsStopped (with_task weave session task) weave session reply
is_stopped weave session task reply within empty told =
    let runs : task_in (set weave.tasks session (Some task)) session ≡ Some task = task_put weave.tasks session (Some task) within in
    record {
      told = told ∙ ap (λ (number : ℕ). Ended number (Plain Stopped)) (sym (ap (number_in weave.begun) runs));
      volume = refl;
      tasks = sym (task_stays weave.tasks session empty) ∙ sym (set-set weave.tasks session (Some task) None);
      entries = refl;
      begun = sym (ap (begun_in weave.begun) runs);
      bytes = refl;
    }

-- ---- what its step asks for

-- the bytes are those of a write that the line is
abbrev pub AreBytesOf : Line → List ℕ → Type 0
AreBytesOf line bytes = (command : Command) → line ≡ Ok command → bytes ≡ bytes_of_command command

-- Its next step may be made. Where its entry comes now it has none yet, so fewer entries came than calls began.
pub record MayAdvance (weave : InterleaveView) (device : DeviceView) (bytes : List ℕ) (task : Task) : Type 0 where
  pub stands : StandsStage weave.volume device bytes task.running
  pub fence : MayFence device (512 * weave.volume.size) (step_of weave.volume bytes task.running).events 1
  pub few : HoldFew weave.tasks
  pub fewer : enters_now (fences_of_task weave.volume bytes task) task.behind ≡ true → length weave.entries < weave.begun

module _ (go_on_among : GoOnAmongLaw) (others_hold : OthersHoldLaw) (weave : InterleaveView) (device : DeviceView) (session : ℕ) (task : Task) (line : Line) (bytes : List ℕ)
    (within : session < length weave.tasks) (empty : task_in weave.tasks session ≡ None) (handed : AreBytesOf line bytes) where
  module _ (calls : Calls) (history : State) (may : MayStep (with_task weave session task) device calls history session line) where
    run : IsRun calls session task
    run =
        run_by (set weave.tasks session (Some task)) calls session task may.weaving.tasks (task_put weave.tasks session (Some task) within)

    at : StandsAt weave.volume device calls history session run.call
    at = stands_at go_on_among (with_task weave session task) device calls history session run.call may.weaving run.runs

    bytes_are : bytes ≡ bytes_of_command run.call.command
    bytes_are = handed run.call.command (may.same run.call run.runs)

    running_is : task.running ≡ run.call.running
    running_is = ap (λ (one : Task). one.running) run.task_is

    stands_so : StandsStage weave.volume device bytes task.running
    stands_so =
        subst (λ (running : Running). StandsStage weave.volume device bytes running) (sym running_is)
        (subst (λ (list : List ℕ). StandsStage weave.volume device list run.call.running) (sym bytes_are) at.stands)

    fence_at : device.fences < 2 ^ 62 → MayFence device (512 * weave.volume.size) (step_of weave.volume (bytes_of_command run.call.command) run.call.running).events 1
    fence_at few =
        let fits = at.first.fits in
        let kept = at.kept in
        let room = at.room in
        record { whole = at.whole; settled = at.settled; room = omega (arith, fits, kept, room); countable = omega (arith, few) }

    fence_so : device.fences < 2 ^ 62 → MayFence device (512 * weave.volume.size) (step_of weave.volume bytes task.running).events 1
    fence_so few =
        subst (λ (running : Running). MayFence device (512 * weave.volume.size) (step_of weave.volume bytes running).events 1) (sym running_is)
        (subst (λ (list : List ℕ). MayFence device (512 * weave.volume.size) (step_of weave.volume list run.call.running).events 1) (sym bytes_are) (fence_at few))

    few_so : HoldFew weave.tasks
    few_so =
        subst HoldFew (sym (tasks_without weave.tasks calls session task may.weaving.tasks empty))
        (others_hold (with_task weave session task) device calls history session may.weaving).few

    enters_so : enters_now (fences_of_task weave.volume bytes task) task.behind ≡ enters_now (fences_of_call weave.volume run.call) run.call.behind
    enters_so =
        ap (λ (list : List ℕ). enters_now (fences_of_task weave.volume list task) task.behind) bytes_are
        ∙ ap (λ (one : Task). enters_now (fences_of_task weave.volume (bytes_of_command run.call.command) one) one.behind) run.task_is

    fewer_entries : enters_now (fences_of_task weave.volume bytes task) task.behind ≡ true → length weave.entries < weave.begun
    fewer_entries enters =
        let some = at.first.some in
        let all = fences_of_call weave.volume run.call in
        let one : all ≡ 1 + (all - 1) = omega (arith, some) in
        let commit : commits run.call.running ≡ true = at.behind.commit ∙ sym (enters_now_at_commit all (all - 1) run.call.behind one) ∙ sym enters_so ∙ enters in
        let cost = to_come_at calls session run.call run.runs in
        let own : to_enter (has_committed run.call.running) ≡ 1 = ap to_enter (not_committed weave.volume run.call at.behind commit) in
        let entered = may.weaving.entered in
        omega (arith, cost, own, entered)

  pub may_advance : device.fences < 2 ^ 62 → IsAsked (with_task weave session task) device session line → MayAdvance weave device bytes task
  may_advance few (calls, history, may) = record {
    stands = stands_so calls history may;
    fence = fence_so calls history may few;
    few = few_so calls history may;
    fewer = fewer_entries calls history may;
  }

  -- ---- and so it goes on

  pub steps_so : GoesOnLaw → (new : InterleaveView) (after : DeviceView) (calls : Calls) (history : State) (reply : StepReply)
      → MayStep (with_task weave session task) device calls history session line → HasAdvanced weave new device after session task bytes reply
      → Steps (with_task weave session task) new device after calls history session line reply
  steps_so goes_on new after calls history reply may advanced =
      let there = run calls history may in
      let command = there.call.command in
      let same : line ≡ Ok command = may.same there.call there.runs in
      subst (λ (l : Line). Steps (with_task weave session task) new device after calls history session l reply) (sym same)
      (goes_on weave new device after calls history session task command reply
      (subst (λ (l : Line). MayStep (with_task weave session task) device calls history session l) same may) within empty
      (subst (λ (list : List ℕ). HasAdvanced weave new device after session task list reply) (handed command same) advanced))

-- A command that changes begins by its plan: with its first step, or where it has nothing to do.
use Rattle.std.proofs.Common.{◌≡◌, ◌⊎◌, inl, inr, ℕ, zero, suc, ◌+◌, ◌<◌, Bool, true, false, length, Option, None, Some, Ok, refl, sym, ap, subst, ◌∙◌, arith}
use Rattle.std.proofs.lemmas.Bool.{true≢false}
use Rattle.pm_trait.specs.DeviceView.{DeviceView}
use Rattle.tree_model.specs.Run.{State, is_changing}
use Rattle.volume.specs.Costs.{events_of}
use Rattle.volume.specs.Planned.{IsPlanOf}
use Rattle.volume.specs.Prepared.{IsChange}
use Rattle.volume.specs.Stages.{keeping}
use Rattle.volume.specs.declared.named.NamedNodes.{NamedNodes}
use Rattle.volume.specs.declared.plan.Action.{Action}
use Rattle.volume.specs.declared.plan.Action.TheVariants.{Make, Name, Remove, Move, Write as WriteBytes, WriteNothing, Resize, KeepSize, KeepNames}
use Rattle.volume.specs.declared.plan.Action.TheVariants.{Read as ReadBytes, Status, Names, Space}
use Rattle.volume.specs.declared.plan.Moving.{Moving}
use Rattle.volume.proofs.PlanActions.{planned_moving}
use Rattle.volume.proofs.Plans.{change_is}
use Rattle.running_calls.specs.declared.running.Running.{Running}
use Rattle.running_calls.specs.Stages.{begun}
use Rattle.running_laws.specs.Steps.{commits, runs_beside}
use Rattle.running_laws.specs.Waits.{bytes_of_command}
use Rattle.session_laws.specs.Calls.{Call, Calls}
use Rattle.session_laws.specs.Going.{behind_commit}
use Rattle.sessions.specs.Advanced.{HasAdvanced}
use Rattle.sessions.specs.Interleave.{InterleaveView, task_of}
use Rattle.sessions.specs.Laws.{BeginsLaw, HasName}
use Rattle.sessions.specs.Planned.{IsPlannedAmong}
use Rattle.sessions.specs.Steps.{Steps}
use Rattle.sessions.specs.declared.entry.StepReply.{StepReply}
use Rattle.sessions.proofs.CarryBeside.{begins_beside}
use Rattle.sessions.proofs.CarryFree.{planned_names, planned_free}
use Rattle.sessions.proofs.CarryIdle.{begins_idle}
use Rattle.sessions.proofs.CarryMade.{BeginsAt, begins}
use Rattle.sessions.proofs.CarryMove.{begins_alone}
use Rattle.sessions.proofs.FencesWhole.{takes_first, fenced_change}
use Rattle.sessions.proofs.WeavesOne.{tasks_long}

-- ---- which runs alone

abbrev AloneOf : Action → Option Running → Type 0
AloneOf action None = Unit {0}
AloneOf action (Some running) = runs_beside running ≡ false → (moving : Moving) × (action ≡ Move moving)

-- but for a rename all run beside others
none_alone : (action : Action) → true ≡ false → (moving : Moving) × (action ≡ Move moving)
none_alone action is = absurd (true≢false is)

alone_by : (action : Action) → 0 < events_of action → AloneOf action (begun action)
alone_by (Make entry) some = none_alone (Make entry)
alone_by (Name link) some = none_alone (Name link)
alone_by (Remove removal) some = none_alone (Remove removal)
alone_by (Move moving) some = λ is. (moving, refl)
alone_by (WriteBytes writing) some = none_alone (WriteBytes writing)
alone_by WriteNothing some = absurd (omega (arith, some))
alone_by (Resize resizing) some = none_alone (Resize resizing)
alone_by KeepSize some = absurd (omega (arith, some))
alone_by KeepNames some = absurd (omega (arith, some))
alone_by (ReadBytes reading) some = tt
alone_by (Status inode) some = tt
alone_by (Names inode) some = tt
alone_by Space some = tt

pub some_or_none : (n : ℕ) → (n ≡ 0) ⊎ (0 < n)
some_or_none zero = inl refl
some_or_none (suc n) = inr (omega arith)

either : (b : Bool) → (b ≡ true) ⊎ (b ≡ false)
either true = inl refl
either false = inr refl

-- ---- it begins

module _ (old new : InterleaveView) (before after : DeviceView) (calls : Calls) (history : State) (session : ℕ) (action : Action) (call : Call) (reply : StepReply)
    (planned : IsPlannedAmong old before calls history session call.command call.named action) (change : IsChange action) (name : HasName action)
    (within_tasks : session < length old.tasks) (number : call.number ≡ old.begun + 1) (plan_behind : call.behind ≡ behind_commit action)
    (starts : begun action ≡ Some call.running)
    (advanced : HasAdvanced (record old { volume = keeping old.volume action; begun = old.begun + 1 }) new before after session (task_of call) (bytes_of_command call.command)
    reply) where
  changing : is_changing call.command ≡ true
  changing = change_is old.volume.size before.words planned.weaving.words call.command action planned.planned.plan_is ∙ change

  within : session < length calls
  within = let same = ap length planned.weaving.tasks in let long = tasks_long calls in omega (arith, within_tasks, same, long)

  known : (enters : Bool) → BeginsAt old before calls history session action call enters → Steps old new before after calls history session (Ok call.command) reply
  known enters at =
      begins old new before after calls history session action call enters planned.weaving planned.idle within number changing
      (planned_free old before calls history session call.command call.named action planned)
      (planned_names old before calls history session call.command call.named action planned) at
      (takes_first old before calls history session action call planned changing plan_behind starts)
      (fenced_change old before calls history session action call planned changing plan_behind starts) reply advanced

  moves : 0 < events_of action → (moving : Moving) × (action ≡ Move moving) → Steps old new before after calls history session (Ok call.command) reply
  moves some (moving, is) =
      let plan = subst (IsPlanOf old.volume.size before.words planned.weaving.words call.command) is planned.planned.plan_is in
      let (from, to, command_is, for) = planned_moving old.volume.size before.words planned.weaving.words call.command moving plan in
      known false (begins_alone old before calls history session action call planned changing plan_behind starts some within from to moving command_is is name)

  steps : Steps old new before after calls history session (Ok call.command) reply
  steps = elim (some_or_none (events_of action)) [
    | inl none ↦ known true (begins_idle old before calls history session action call planned changing starts none planned.idle)
    | inr some ↦ elim (either (runs_beside call.running)) [
      | inl beside ↦ known (commits call.running) (begins_beside old before calls history session action call planned changing plan_behind starts some planned.idle within beside)
      | inr alone ↦ moves some (subst (AloneOf action) starts (alone_by action some) alone)
    ]
  ]

pub begins_law : BeginsLaw
begins_law old new before after calls history session command named action task reply planned change name within task_is advanced =
    let call : Call = record { number = task.number; named = task.named; behind = task.behind; command = command; running = task.running } in
    steps old new before after calls history session action call reply
    (subst (λ (nodes : NamedNodes). IsPlannedAmong old before calls history session command nodes action) (sym task_is.named_is) planned) change name within task_is.number_is
    task_is.behind_is task_is.running_is advanced

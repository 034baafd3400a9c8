-- A plan that changes is carried out, by what the code sees of the sessions and of their volume.
use Rattle.std.proofs.Common.{◌≡◌, ℕ, ◌*◌, ◌^◌, ◌<◌, ◌≤◌, List, length, Some, Ok, sym, ap, subst, ◌∙◌}
use Rattle.pm_trait.specs.DeviceView.{DeviceView}
use Rattle.pm_trait.specs.Unfolds.{MayFence}
use Rattle.tree_model.specs.Run.{State}
use Rattle.tree_model.specs.declared.command.Command.{Command}
use Rattle.volume.specs.Prepared.{IsChange}
use Rattle.volume.specs.Stages.{keeping}
use Rattle.volume.specs.Volume.{VolumeView}
use Rattle.volume.specs.declared.named.NamedNodes.{NamedNodes}
use Rattle.volume.specs.declared.plan.Action.{Action}
use Rattle.running_calls.specs.declared.running.Running.{Running}
use Rattle.running_calls.specs.Stages.{StandsStage, MayBegin, begun, step_of}
use Rattle.running_laws.specs.Waits.{bytes_of_command}
use Rattle.session_laws.specs.Calls.{Calls}
use Rattle.sessions.specs.Advanced.{HasAdvanced}
use Rattle.sessions.specs.Interleave.{InterleaveView, unbegun}
use Rattle.sessions.specs.Laws.{HasName, IsTaskOf}
use Rattle.sessions.specs.Planned.{IsPlannedAmong}
use Rattle.sessions.specs.Steps.{Steps}
use Rattle.sessions.specs.Tasks.{HoldFew}
use Rattle.sessions.specs.declared.entry.StepReply.{StepReply}
use Rattle.sessions.specs.declared.task.Task.{Task}
use Rattle.sessions.proofs.CarryOut.{planned_few, planned_room, begin_may, begin_stands, begin_fence, begun_steps}

module _ (weave seen : InterleaveView) (device : DeviceView) (session : ℕ) (command : Command) (named : NamedNodes) (action : Action) (some : 1 ≤ weave.begun)
    (calls : Calls) (history : State) (planned : IsPlannedAmong (unbegun weave) device calls history session command named action) (same : seen ≡ weave) where
  pub seen_few : HoldFew seen.tasks
  seen_few = subst (λ (w : InterleaveView). HoldFew w.tasks) (sym same) (planned_few weave device session command named action some calls history planned)

  pub seen_room : (most : ℕ) → weave.begun ≤ most → length seen.entries < most
  seen_room most few =
      subst (λ (w : InterleaveView). length w.entries < most) (sym same) (planned_room weave device session command named action some calls history planned most few)

  module _ (change : IsChange action) where
    pub seen_may : MayBegin seen.volume device (bytes_of_command command) action
    seen_may =
        subst (λ (w : InterleaveView). MayBegin w.volume device (bytes_of_command command) action) (sym same)
        (begin_may weave device session command named action some calls history planned change)

    -- of the volume that keeps the plan's events
    module _ (volume : VolumeView) (bytes : List ℕ) (running : Running) (keeps : volume ≡ keeping seen.volume action) (written : bytes ≡ bytes_of_command command)
        (starts : begun action ≡ Some running) where
      volume_is : volume ≡ keeping weave.volume action
      volume_is = keeps ∙ ap (λ (w : InterleaveView). keeping w.volume action) same

      pub seen_stands : StandsStage volume device bytes running
      seen_stands =
          subst (λ (v : VolumeView). StandsStage v device bytes running) (sym volume_is)
          (subst (λ (b : List ℕ). StandsStage (keeping weave.volume action) device b running) (sym written)
          (begin_stands weave device session command named action some calls history planned change running starts))

      pub seen_fence : device.fences < 2 ^ 62 → MayFence device (512 * volume.size) (step_of volume bytes running).events 1
      seen_fence few =
          subst (λ (v : VolumeView). MayFence device (512 * v.size) (step_of v bytes running).events 1) (sym volume_is)
          (subst (λ (b : List ℕ). MayFence device (512 * weave.volume.size) (step_of (keeping weave.volume action) b running).events 1) (sym written)
          (begin_fence weave device session command named action some calls history planned change running starts few))

      pub seen_steps : (new : InterleaveView) (after : DeviceView) (task : Task) (reply : StepReply) → HasName action → session < length weave.tasks
          → IsTaskOf action named weave.begun task → HasAdvanced (record seen { volume = volume }) new device after session task bytes reply
          → Steps (unbegun weave) new device after calls history session (Ok command) reply
      seen_steps new after task reply name within task_is advanced =
          begun_steps weave device session command named action some calls history planned change (record seen { volume = volume }) new after task reply name within task_is
          (λ k. record (same k) { volume = volume_is k })
          (subst (λ (b : List ℕ). HasAdvanced (record seen { volume = volume }) new device after session task b reply) written advanced)

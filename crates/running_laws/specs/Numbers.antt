-- What is left of a running call takes the events and the fence of its next step, and those of what is left behind it; and what it holds is what it
-- has left. (A rename too.)
use Rattle.std.specs.Prelude.{◌≡◌, ℕ, ◌+◌, ◌<◌, List, length, Some}
use Rattle.pm_trait.specs.DeviceView.{DeviceView}
use Rattle.pm_trait.specs.Unfolds.{events_in, fences_in}
use Rattle.tree_model.specs.Run.{State}
use Rattle.tree_model.specs.declared.command.Command.{Command}
use Rattle.image_reading.specs.Residue.{Residue}
use Rattle.volume.specs.Volume.{VolumeView}
use Rattle.volume.specs.Costs.{events_of, fences_of_plan}
use Rattle.volume.specs.Stages.{keeping}
use Rattle.volume.specs.declared.next.Next.{Next}
use Rattle.volume.specs.declared.next.Next.TheVariants.{More, Ended}
use Rattle.volume.specs.declared.plan.Action.{Action}
use Rattle.running_calls.specs.declared.running.Running.{Running}
use Rattle.running_calls.specs.Stages.{StandsStage, StandsNext, MayBegin, IsNext, EntersAt, begun, step_of, left_of, held_of}
use Rattle.running_laws.specs.Waits.{left_by, Waits}

-- ---- events and fences

abbrev pub events_left : VolumeView → List ℕ → Next Running → ℕ
events_left volume bytes (More running) = events_in (left_of volume bytes running)
events_left volume bytes (Ended reply) = 0

abbrev pub fences_left : VolumeView → List ℕ → Next Running → ℕ
fences_left volume bytes (More running) = fences_in (left_of volume bytes running)
fences_left volume bytes (Ended reply) = 0

-- those of a plan
pub record CostsAllOf (volume : VolumeView) (bytes : List ℕ) (action : Action) (running : Running) : Type 0 where
  pub events : events_of action ≡ events_in (left_of (keeping volume action) bytes running)
  pub fences : fences_of_plan action ≡ fences_in (left_of (keeping volume action) bytes running)

abbrev pub PlanCostsLaw : Type 0
PlanCostsLaw = (volume : VolumeView) (device : DeviceView) (bytes : List ℕ) (action : Action) (running : Running) → MayBegin volume device bytes action → begun action ≡ Some running
    → CostsAllOf volume bytes action running

-- those of a step
pub record CostsStep (old new : VolumeView) (bytes : List ℕ) (running : Running) (next : Next Running) : Type 0 where
  pub events : events_in (left_of old bytes running) ≡ (step_of old bytes running).events + events_left new bytes next
  pub fences : fences_in (left_of old bytes running) ≡ 1 + fences_left new bytes next

abbrev pub StepCostsLaw : Type 0
StepCostsLaw = (old between new : VolumeView) (before after : DeviceView) (bytes : List ℕ) (running : Running) (next : Next Running) → StandsStage old before bytes running
    → 0 < fences_in (left_of old bytes running) → between.index ≡ old.index → between.size ≡ old.size → EntersAt running between new
    → IsNext running next → StandsNext new after bytes next → CostsStep old new bytes running next

-- ---- what it holds

abbrev pub HeldIsLeftLaw : Type 0
HeldIsLeftLaw = (volume : VolumeView) (device : DeviceView) (state : State) (command : Command) (running : Running) (others : Residue) → Waits volume device state command running others
    → held_of running ≡ record { inodes = length (left_by volume running).inodes; pages = length (left_by volume running).pages }

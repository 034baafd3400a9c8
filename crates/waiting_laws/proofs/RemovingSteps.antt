-- A removal that waits goes on, and behind each step but the last it waits again.
use Rattle.std.proofs.Common.{◌≡◌}
use Rattle.pm_trait.specs.DeviceView.{DeviceView}
use Rattle.tree_model.specs.Run.{State}
use Rattle.image_reading.specs.Residue.{Residue}
use Rattle.volume.specs.Volume.{VolumeView}
use Rattle.volume.specs.declared.next.Next.TheVariants.{More}
use Rattle.volume.specs.declared.plan.Removal.{Removal}
use Rattle.unlink_ops.specs.declared.removal.Stage.{Stage}
use Rattle.unlink_ops.specs.declared.removal.Stage.TheVariants.{Begun, Unnamed, Cleared, Disowned}
use Rattle.unlink_ops.specs.RemovalStages.{RunningView, step_of, next_of, EntersAt, StandsStage}
use Rattle.waiting_laws.specs.Beside.{MakesStep}
use Rattle.waiting_laws.specs.Removing.{WaitsToRemove, WaitsOn, RemovingStepsLaw}
use Rattle.waiting_laws.proofs.RemovingWaits.{at, not_more}
use Rattle.waiting_laws.proofs.RemovingClears.{on_cleared}
use Rattle.waiting_laws.proofs.RemovingGives.{on_disowned}

by_stage : (old new : VolumeView) (before after : DeviceView) (state : State) (removal : Removal) (stage : Stage) (next : RunningView) (others : Residue) → WaitsToRemove old before state (at removal stage) others
    → MakesStep (step_of old (at removal stage)) (EntersAt (at removal stage)) old new before after → next_of removal stage ≡ More next → StandsStage new after next
    → WaitsOn old new before after state next others
by_stage old new before after state removal Begun next others waits makes is stands = absurd waits.falling
by_stage old new before after state removal Unnamed next others waits makes is stands = on_cleared old before after state removal others waits new makes.enters makes next is stands
by_stage old new before after state removal Cleared next others waits makes is stands = on_disowned old before after state removal others waits new makes.enters makes next is stands
by_stage old new before after state removal Disowned next others waits makes is stands = absurd (not_more next is)

pub removing_steps_law : RemovingStepsLaw
removing_steps_law old new before after state running next others waits makes is stands = by_stage old new before after state running.removal running.stage next others waits makes is stands

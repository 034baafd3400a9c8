-- What a crash leaves in a step of a removal or a move that commits nothing, by the laws of their steps.
use Rattle.std.proofs.Common.{◌≡◌, ℕ, List, refl}
use Rattle.pm_trait.specs.DeviceView.{DeviceView}
use Rattle.tree_model.specs.Run.{State}
use Rattle.image_reading.specs.Residue.{Residue}
use Rattle.volume.specs.Volume.{VolumeView}
use Rattle.volume.specs.declared.plan.Removal.{Removal}
use Rattle.removal_steps.specs.Steps.{gone_pages}
use Rattle.unlink_ops.specs.declared.removal.Stage.{Stage}
use Rattle.unlink_ops.specs.declared.removal.Stage.TheVariants.{Begun, Unnamed, Cleared, Disowned}
use Rattle.unlink_ops.specs.RemovalStages.{step_of}
use Rattle.rename_ptr.specs.Stages.{next_moving}
use Rattle.rename_ptr.proofs.Ahead.{next_cases}
use Rattle.waiting_laws.specs.Beside.{KeepsMeaning}
use Rattle.waiting_laws.specs.Crashes.{RemovingQuietLaw, MovingQuietLaw}
use Rattle.waiting_laws.specs.Removing.{WaitsToRemove}
use Rattle.waiting_laws.proofs.MovingEnds as ends
use Rattle.waiting_laws.proofs.MovingSteps as steps
use Rattle.waiting_laws.proofs.RemovingClears as clears
use Rattle.waiting_laws.proofs.RemovingFrees as frees
use Rattle.waiting_laws.proofs.RemovingGives as gives
use Rattle.waiting_laws.proofs.RemovingWaits.{at}

-- ---- a removal

by_stage : (volume : VolumeView) (device : DeviceView) (state : State) (removal : Removal) (stage : Stage) (others : Residue) (J : List ℕ) → WaitsToRemove volume device state (at removal stage) others
    → (step_of volume (at removal stage)).Makes device.words J → KeepsMeaning volume.size device.words J
by_stage volume device state removal Begun others J waits made = absurd waits.falling
by_stage volume device state removal Unnamed others J waits made = clears.quiet volume device state removal others waits J made
by_stage volume device state removal Cleared others J waits made = gives.quiet volume device state removal others waits J made
by_stage volume device state removal Disowned others J waits made = frees.quiet volume device state removal others waits J made

pub removing_quiet_law : RemovingQuietLaw
removing_quiet_law volume device state running others J waits made = by_stage volume device state running.removal running.stage others J waits made

-- ---- a move

-- another step comes, or none
pub moving_quiet_law : MovingQuietLaw
moving_quiet_law volume device state from to moving progress J waits other made =
    next_cases volume.size moving (gone_pages volume moving.replaced) (λ there. next_moving moving progress ≡ there → KeepsMeaning volume.size device.words J) progress waits.at.store waits.knows.losses.count
    (λ next is e. steps.crash_quiet volume device state from to moving progress waits J made next e other) (λ last e. ends.crash_last volume device state from to moving progress waits e J made) refl

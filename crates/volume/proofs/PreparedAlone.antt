-- A command that is prepared where no call runs.
use Rattle.std.proofs.Common.{◌∙◌, refl}
use Rattle.pm_trait.specs.DeviceView.{DeviceView}
use Rattle.tree_model.specs.Run.{State}
use Rattle.tree_model.specs.declared.command.Command.{Command}
use Rattle.image_reading.specs.Residue.{Residue, no_residue}
use Rattle.image_counts.specs.Laws.{supply_beside}
use Rattle.volume.specs.Volume.{VolumeView}
use Rattle.volume.specs.Stands.{StandsFor, IsStanding}
use Rattle.volume.specs.Beside.{StandsBeside, MayPrepare, IsAsked}
use Rattle.volume.specs.Planned.{IsPlannedWith}
use Rattle.volume.specs.Carried.{IsPlanFor}
use Rattle.volume.specs.Prepared.{IsSameButPlaces}
use Rattle.volume.specs.declared.plan.Action.{Action}
use Rattle.volume.proofs.Beside.{stands_beside, beside_stands, untouched_nothing}

pub may_prepare : {volume : VolumeView} {device : DeviceView} {state : State} (command : Command) → StandsFor volume device state → MayPrepare volume device state no_residue command
may_prepare {volume} {device} command stands = record {
  stands = stands_beside stands;
  untouched = record { each = λ i named. untouched_nothing volume device.words i; alone = λ all. refl };
}

pub asked : {volume : VolumeView} {device : DeviceView} (command : Command) → IsStanding volume device → IsAsked volume device command
asked command (state, stands) = (state, no_residue, may_prepare command stands)

module _ {old new : VolumeView} {before after : DeviceView} {state : State} (same : IsSameButPlaces old new) (stands : StandsFor old before state)
    (keeps : (state : State) (residue : Residue) → StandsBeside old before state residue → StandsBeside new after state residue) where
  -- it stands as before
  pub still_alone : StandsFor new after state
  still_alone = beside_stands (keeps state no_residue (stands_beside stands)) (same.same_kept ∙ stands.no_call)

  -- and the plan is one of it
  pub plan_alone : {command : Command} {action : Action} → IsPlannedWith (supply_beside new.size no_residue) after.words state command action → IsPlanFor new after state command action
  plan_alone planned = record { stands = still_alone; planned = planned }

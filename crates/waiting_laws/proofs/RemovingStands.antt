-- A removal that waits may make its next step.
use Rattle.std.proofs.Common.{ℕ, List}
use Rattle.tree_model.specs.Run.{State}
use Rattle.volume.specs.Volume.{VolumeView}
use Rattle.volume.specs.declared.plan.Removal.{Removal}
use Rattle.unlink_ops.specs.declared.removal.Stage.{Stage}
use Rattle.unlink_ops.specs.declared.removal.Stage.TheVariants.{Begun, Unnamed, Cleared, Disowned}
use Rattle.unlink_ops.specs.RemovalStages.{HasName}
use Rattle.waiting_laws.specs.Removing.{HasFalling, RemovingStandsLaw}

-- the name is out
name_out : (volume : VolumeView) (I : List ℕ) (state : State) (removal : Removal) (stage : Stage) → HasFalling I state removal stage → HasName volume removal stage
name_out volume I state removal Begun none = absurd none
name_out volume I state removal Unnamed falling = tt
name_out volume I state removal Cleared falling = tt
name_out volume I state removal Disowned falling = tt

pub removing_stands_law : RemovingStandsLaw
removing_stands_law volume device state running others waits kept = record {
  going = waits.beside.going;
  whole = waits.beside.stands.knows.whole;
  words = waits.words;
  kept = kept;
  name = name_out volume device.words state running.removal running.stage waits.falling;
  losses = waits.losses;
}

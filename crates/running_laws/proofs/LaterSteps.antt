-- Behind a later step of a call, whatever its command: it waits on or has ended.
use Rattle.std.proofs.Common.{sym, subst}
use Rattle.pm_trait.specs.DeviceView.{DeviceView}
use Rattle.tree_model.specs.Run.{State}
use Rattle.tree_model.specs.declared.command.Command.{Command}
use Rattle.image_reading.specs.Residue.{Residue}
use Rattle.volume.specs.Volume.{VolumeView}
use Rattle.volume.specs.declared.next.Next.{Next}
use Rattle.running_calls.specs.declared.running.Running.{Running}
use Rattle.running_calls.specs.declared.running.Running.TheVariants.{Makes, Links, Removes, Moves, Writes, Resizes}
use Rattle.running_calls.specs.Stages.{StandsNext, IsNext, EntersAt, step_of}
use Rattle.waiting_laws.specs.Beside.{MakesStep}
use Rattle.running_laws.specs.Steps.{LaterStepLaw, WentOnBeside}
use Rattle.running_laws.specs.Waits.{bytes_of_command, Waits}
use Rattle.running_laws.proofs.LaterFiles.{write_goes, size_goes}
use Rattle.running_laws.proofs.LaterNaming.{entry_goes, link_goes}
use Rattle.running_laws.proofs.LaterRemoving.{removal_goes}

module _ (old new : VolumeView) (before after : DeviceView) (state : State) (command : Command) (others : Residue) where
  -- where the next is this one
  abbrev Goes : Running → Next Running → Type 0
  Goes running next = StandsNext new after (bytes_of_command command) next → WentOnBeside old new before after state command running next others

  by_kind : (running : Running) (next : Next Running) → Waits old before state command running others
      → MakesStep (step_of old (bytes_of_command command) running) (EntersAt running) old new before after → IsNext running next → Goes running next
  by_kind (Makes running) next waits makes (left, comes, is) =
      subst (Goes (Makes running)) (sym is) (entry_goes old new before after state others command running left waits makes comes)
  by_kind (Links running) next waits makes (left, comes, is) =
      subst (Goes (Links running)) (sym is) (link_goes old new before after state others command running left waits makes comes)
  by_kind (Removes running) next waits makes is = subst (Goes (Removes running)) (sym is) (removal_goes old new before after state command running others waits makes)
  by_kind (Moves running) next waits makes is = absurd waits
  by_kind (Writes running) next waits makes is = subst (Goes (Writes running)) (sym is) (write_goes old new before after state others command running waits makes)
  by_kind (Resizes running) next waits makes is = subst (Goes (Resizes running)) (sym is) (size_goes old new before after state others command running waits makes)

pub later_step_law : LaterStepLaw
later_step_law old new before after state command running next others waits makes is stands = by_kind old new before after state command others running next waits makes is stands

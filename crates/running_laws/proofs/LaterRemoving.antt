-- Behind a later step of a call that takes a name away: it waits again, or has ended, and the state is the same.
use Rattle.std.proofs.Common.{◌≡◌, ◌⊎◌, inl, inr, Bool, true, false, nat_lt, refl, sym, subst}
use Rattle.std.specs.Prelude.{if◌then◌else◌}
use Rattle.pm_trait.specs.DeviceView.{DeviceView}
use Rattle.tree_model.specs.Run.{State}
use Rattle.tree_model.specs.declared.command.Command.{Command}
use Rattle.tree_model.specs.declared.reply.Reply.TheVariants.{Done}
use Rattle.image_reading.specs.Residue.{Residue}
use Rattle.volume.specs.Volume.{VolumeView}
use Rattle.volume.specs.Costs.{pages_removed}
use Rattle.volume.specs.declared.next.Next.{Next}
use Rattle.volume.specs.declared.next.Next.TheVariants.{Ended}
use Rattle.volume.specs.declared.plan.Removal.{Removal}
use Rattle.unlink_ops.specs.declared.removal.Stage.{Stage}
use Rattle.unlink_ops.specs.declared.removal.Stage.TheVariants.{Begun, Unnamed, Cleared, Disowned}
use Rattle.unlink_ops.specs.RemovalStages.{RunningView, next_of, at_stage}
use Rattle.running_calls.specs.declared.running.Running.TheVariants.{Removes}
use Rattle.running_calls.specs.Stages.{StandsNext, EntersAt, as_call, step_of}
use Rattle.waiting_laws.specs.Beside.{MakesStep}
use Rattle.waiting_laws.specs.Removing.{WaitsToRemove}
use Rattle.waiting_laws.proofs.RemovingWaits.{at}
use Rattle.waiting_laws.proofs.RemovingEnds.{removing_ends_law}
use Rattle.waiting_laws.proofs.RemovingSteps.{removing_steps_law}
use Rattle.running_laws.specs.Steps.{commits_removal, Means, WentOnBeside}
use Rattle.running_laws.specs.Waits.{bytes_of_command, Waits}

-- another stage comes, or none
abbrev ComesOrEnds : Removal → Next RunningView → Type 0
ComesOrEnds removal next = ((stage : Stage) × (next ≡ at_stage removal stage)) ⊎ (next ≡ Ended Done)

behind_clearing : (removal : Removal) (gives goes : Bool)
    → ComesOrEnds removal (if gives then at_stage removal Cleared else (if goes then at_stage removal Disowned else Ended Done))
behind_clearing removal true goes = inl (Cleared, refl)
behind_clearing removal false true = inl (Disowned, refl)
behind_clearing removal false false = inr refl

behind : (removal : Removal) (stage : Stage) → ComesOrEnds removal (next_of removal stage)
behind removal Begun = inl (Unnamed, refl)
behind removal Unnamed = behind_clearing removal (nat_lt 0 (pages_removed removal)) removal.loss.goes
behind removal Cleared = inl (Disowned, refl)
behind removal Disowned = inr refl

-- one that waits has committed
same_state : (volume : VolumeView) (device : DeviceView) (state : State) (command : Command) (removal : Removal) (stage : Stage) (others : Residue)
    → WaitsToRemove volume device state (at removal stage) others → Means (commits_removal stage) state state command 0
same_state volume device state command removal Begun others on = absurd on.falling
same_state volume device state command removal Unnamed others on = refl
same_state volume device state command removal Cleared others on = refl
same_state volume device state command removal Disowned others on = refl

pub removal_goes : (old new : VolumeView) (before after : DeviceView) (state : State) (command : Command) (running : RunningView) (others : Residue)
    → Waits old before state command (Removes running) others
    → MakesStep (step_of old (bytes_of_command command) (Removes running)) (EntersAt (Removes running)) old new before after
    → StandsNext new after (bytes_of_command command) (as_call Removes (next_of running.removal running.stage))
    → WentOnBeside old new before after state command (Removes running) (as_call Removes (next_of running.removal running.stage)) others
removal_goes old new before after state command running others (path, is, on) makes stands =
    let Went : Next RunningView → Type 0 = λ left. WentOnBeside old new before after state command (Removes running) (as_call Removes left) others in
    let means = same_state old before state command running.removal running.stage others on in
    elim (behind running.removal running.stage) [
      | inl comes ↦
          let next = at running.removal comes.0 in
          let again = removing_steps_law old new before after state running next others on makes comes.1
          (subst (λ left. StandsNext new after (bytes_of_command command) (as_call Removes left)) comes.1 stands) in
          subst Went (sym comes.1) (record { later = state; means = means; leaves = again.leaves; waits = (path, is, again.waits) })
      | inr ends ↦ subst Went (sym ends) (record { later = state; means = means; leaves = removing_ends_law old new before after state running others on makes ends; waits = tt })
    ]

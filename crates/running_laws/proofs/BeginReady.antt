-- A call begins where it is ready, whatever its command.
use Rattle.std.proofs.Common.{◌≡◌, inr, true, [], refl, sym, subst, ◌∙◌, true≢false}
use Rattle.pm_trait.specs.DeviceView.{DeviceView}
use Rattle.tree_model.specs.PathText.{Route}
use Rattle.tree_model.specs.Run.{State, is_changing}
use Rattle.tree_model.specs.declared.command.Command.{Command}
use Rattle.tree_model.specs.declared.command.Command.TheVariants.{Rename, Write, Truncate}
use Rattle.image_reading.specs.Residue.{Residue, no_residue}
use Rattle.volume.specs.Volume.{VolumeView}
use Rattle.volume.specs.declared.plan.Action.{Action}
use Rattle.volume.specs.declared.plan.Action.TheVariants.{Move, WriteNothing, KeepSize, KeepNames}
use Rattle.running_calls.specs.Stages.{MayBegin}
use Rattle.waiting_laws.specs.Beside.{IsReady}
use Rattle.waiting_laws.proofs.LinkingBegins.{linking_begins}
use Rattle.waiting_laws.proofs.MakingBegins.{making_begins}
use Rattle.waiting_laws.proofs.MovingBegins.{moving_begins}
use Rattle.waiting_laws.proofs.ReadyStands.{has_begun}
use Rattle.waiting_laws.proofs.RemovingBegins.{removing_begins_law}
use Rattle.waiting_laws.proofs.WritingBegins.{writing_begins_law}
use Rattle.waiting_laws.proofs.WritingResized.{resizing_begins_law}
use Rattle.running_laws.specs.Steps.{BeginsLaw}
use Rattle.running_laws.specs.Waits.{bytes_of_command}
use Rattle.running_laws.proofs.BeginPlans.{IsCallOf, planned_call}

-- a rename is prepared where the others have left nothing
alone : (volume : VolumeView) (device : DeviceView) (state : State) (from to : Route) (action : Action) (others : Residue)
    → IsReady volume device state (Rename from to) action others → IsReady volume device state (Rename from to) action no_residue
alone volume device state from to action others ready = subst (λ (r : Residue). IsReady volume device state (Rename from to) action r) (ready.prepared.untouched.alone refl) ready

begins : (volume : VolumeView) (device : DeviceView) (state : State) (command : Command) (action : Action) (others : Residue) → IsReady volume device state command action others
    → is_changing command ≡ true → IsCallOf command action → MayBegin volume device (bytes_of_command command) action
begins volume device state _ _ others ready changing (IsCallOf.makes path entry) = making_begins volume device state path entry others ready
begins volume device state _ _ others ready changing (IsCallOf.links from to link) = linking_begins volume device state from to link others ready
begins volume device state _ _ others ready changing (IsCallOf.removes path removal) = removing_begins_law volume device state path removal others ready
begins volume device state _ _ others ready changing (IsCallOf.moves from to moving) =
    moving_begins volume device state from to moving (alone volume device state from to (Move moving) others ready)
begins volume device state _ _ others ready changing (IsCallOf.keeps_names from to) = (
  inr refl,
  (λ some. ready.unmarked),
  record {
    going = ready.going;
    whole = ready.prepared.stands.knows.whole;
    at = tt;
    kept = has_begun volume device state (Rename from to) KeepNames others ready;
  },
)
begins volume device state _ _ others ready changing (IsCallOf.writes path writing bytes) = writing_begins_law volume device state path writing bytes others ready
begins volume device state _ _ others ready changing (IsCallOf.writes_nothing path offset) = (
  inr refl,
  (λ some. ready.unmarked),
  record {
    going = ready.going;
    whole = ready.prepared.stands.knows.whole;
    at = refl;
    kept = has_begun volume device state (Write path offset []) WriteNothing others ready;
  },
)
begins volume device state _ _ others ready changing (IsCallOf.resizes path resizing) = resizing_begins_law volume device state path resizing others ready
begins volume device state _ _ others ready changing (IsCallOf.keeps_size path size) = (
  inr refl,
  (λ some. ready.unmarked),
  record {
    going = ready.going;
    whole = ready.prepared.stands.knows.whole;
    at = tt;
    kept = has_begun volume device state (Truncate path size) KeepSize others ready;
  },
)
begins volume device state _ _ others ready changing (IsCallOf.reads command action stays none) = absurd (true≢false (sym changing ∙ stays))

pub begins_law : BeginsLaw
begins_law volume device state command action others ready changing =
    begins volume device state command action others ready changing (planned_call volume device state command action others ready)

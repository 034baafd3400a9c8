-- A call that is ready begins: the volume stands beside the others with the events of its plan kept.
use Rattle.std.proofs.Common.{◌≡◌, ◌≢◌, ℕ, ◌+◌, ◌≤◌, Bool, true, false, nat_lt, refl, subst, arith}
use Rattle.std.proofs.lemmas.Bool.{ltb-false}
use Rattle.pm_trait.specs.DeviceView.{DeviceView}
use Rattle.tree_model.specs.Run.{State}
use Rattle.tree_model.specs.declared.command.Command.{Command}
use Rattle.image_reading.specs.Residue.{Residue, no_residue}
use Rattle.volume.specs.Costs.{mark_events, kept_events, events_of, where_true}
use Rattle.volume.specs.Volume.{VolumeView}
use Rattle.volume.specs.Planned.{IsNothingOr}
use Rattle.volume.specs.Prepared.{IsBounded}
use Rattle.volume.specs.Stages.{HasKept, keeping}
use Rattle.volume.specs.declared.plan.Action.{Action}
use Rattle.volume.proofs.KeptEvents.{has_kept}
use Rattle.volume.proofs.PlanActions.{pages_few}
use Rattle.waiting_laws.specs.Beside.{IsReady, StandsWith}
use Rattle.waiting_laws.proofs.FileKnown.{known_keeping}

-- an action in place of which nothing would be done is done
pub not_nothing : (none : Bool) (nothing action : Action) (Q : Action → Type 0) → action ≢ nothing → IsNothingOr none nothing Q action → none ≡ false
not_nothing true nothing action Q other plan = absurd (other plan)
not_nothing false nothing action Q other plan = refl

-- where the plan has its room beside what is kept, so has the mark
room_beside : (events mark kept spare : ℕ) → mark + kept ≤ spare → where_true (nat_lt 0 events) (events + (mark + kept)) ≤ spare → mark + (kept + events) ≤ spare
room_beside events mark kept spare enough =
    elim (nat_lt 0 events) as (λ t. nat_lt 0 events ≡ t → where_true t (events + (mark + kept)) ≤ spare → mark + (kept + events) ≤ spare) [
      | true ↦ λ is room. omega (arith, room)
      | false ↦ λ is room. (let none = ltb-false 0 events is in omega (arith, none, enough))
    ] refl

module _ (volume : VolumeView) (device : DeviceView) (state : State) (command : Command) (action : Action) (others : Residue) (ready : IsReady volume device state command action others) where
  room : mark_events + (volume.kept + events_of action) ≤ device.spare
  room = room_beside (events_of action) mark_events volume.kept device.spare ready.prepared.stands.room
      (subst (λ m. where_true (nat_lt 0 (events_of action)) (events_of action + (kept_events m + volume.kept)) ≤ device.spare) ready.unmarked ready.reserved.room)

  pub stands_keeping : StandsWith (keeping volume action) device state no_residue others
  stands_keeping =
      let stands = ready.prepared.stands in
      record {
        stands = record {
          settled = stands.settled;
          sound = stands.sound;
          beside = stands.beside;
          reads = stands.reads;
          knows = known_keeping (volume.kept + events_of action) volume device.words others stands.knows;
          mark = stands.mark;
          room = room;
        };
        going = ready.going;
        unmarked = ready.unmarked;
        no_pointer = ready.no_pointer;
      }

  pub bounded : IsBounded action
  bounded = pages_few volume device state others ready.prepared.stands command action ready.planned

  -- the events of a plan that begins are among those that the volume keeps
  pub has_begun : HasKept (keeping volume action) device (events_of action)
  has_begun = has_kept volume device action bounded ready.few (let room = ready.prepared.stands.room in omega (arith, room)) ready.reserved

-- The move of a name begins where nothing is left: its first stage stands, and with a name of bytes it waits from there on.
use Rattle.std.proofs.Common.{◌≡◌, inl, ℕ, ◌+◌, ◌<◌, ◌≤◌, true, false, nat_lt, List, refl, subst, arith}
use Rattle.std.specs.Prelude.{Option, Some, None}
use Rattle.std.proofs.lemmas.Bool.{ltb-false}
use Rattle.pm_trait.specs.DeviceView.{DeviceView}
use Rattle.pm_trait.specs.Unfolds.{events_in}
use Rattle.layout.specs.Name.{IsName, IsBytes}
use Rattle.tree_model.specs.PathText.{Route}
use Rattle.tree_model.specs.Run.{State}
use Rattle.tree_model.specs.declared.command.Command.TheVariants.{Rename}
use Rattle.image_reading.specs.Residue.{no_residue}
use Rattle.volume.specs.Volume.{VolumeView}
use Rattle.volume.specs.Beside.{StandsBeside}
use Rattle.volume.specs.Carried.{IsPlanFor, MayCarry}
use Rattle.volume.specs.Costs.{where_true, mark_events, kept_events, events_of}
use Rattle.volume.specs.Entered.{HasMovePlace}
use Rattle.volume.specs.Stages.{HasKept, keeping}
use Rattle.volume.specs.declared.plan.Action.TheVariants.{Move}
use Rattle.volume.specs.declared.plan.Loss.{Loss}
use Rattle.volume.specs.declared.plan.Moving.{Moving}
use Rattle.volume.proofs.Beside.{beside_stands}
use Rattle.volume.proofs.KeptEvents.{bounded, has_kept}
use Rattle.volume.proofs.MayStill.{name_place_alike}
use Rattle.volume.proofs.Moments.{with_kept}
use Rattle.removal_steps.specs.Steps.{gone_pages}
use Rattle.rename_ptr.specs.Stages.{StandsStage, KnowsMove, IsAt, IsPlannedMove, MayBegin, left_of}
use Rattle.rename_ptr.specs.declared.rename.Progress.TheVariants.{Begun}
use Rattle.rename_ptr.specs.declared.rename.Stage.TheVariants.{Moving as Moves}
use Rattle.rename_ptr.proofs.Carrying as carrying
use Rattle.rename_ptr.proofs.Known.{knows_kept}
use Rattle.waiting_laws.specs.Beside.{IsReady}
use Rattle.waiting_laws.proofs.MovingKnown.{knows_with}
use Rattle.waiting_laws.specs.Moving.{WaitsToMove, MovingBeginsLaw, MovingStartsLaw}

-- what is reserved for events and more is enough for less
enough_less : (events more less spare : ℕ) → less ≤ more → where_true (nat_lt 0 events) (events + more) ≤ spare → where_true (nat_lt 0 events) (events + less) ≤ spare
enough_less events more less spare few = elim (nat_lt 0 events) as (λ t. where_true t (events + more) ≤ spare → where_true t (events + less) ≤ spare) [
  | true ↦ λ room. omega (arith, room, few)
  | false ↦ λ room. omega (arith, room)
]

-- and where there is an event, for all of it
enough_all : (events more spare : ℕ) → 0 < events → where_true (nat_lt 0 events) (events + more) ≤ spare → events + more ≤ spare
enough_all events more spare some = elim (nat_lt 0 events) as (λ t. nat_lt 0 events ≡ t → where_true t (events + more) ≤ spare → events + more ≤ spare) [
  | true ↦ λ is room. omega (arith, room)
  | false ↦ λ is room. absurd (let none = ltb-false 0 events is in omega (arith, none, some))
] refl

more_events : (moving : Moving) → 0 < events_of (Move moving)
more_events moving = omega arith

module _ (volume : VolumeView) (device : DeviceView) (state : State) (from to : Route) (moving : Moving) (ready : IsReady volume device state (Rename from to) (Move moving) no_residue) where
  stands : StandsBeside volume device state no_residue
  stands = ready.prepared.stands

  -- the volume as if no events were kept, and the device as if it had made no fence
  abbrev alone : VolumeView
  alone = with_kept 0 volume

  abbrev unfenced : DeviceView
  unfenced = record device { fences = 0 }

  -- whatever events are kept, where there is room for them, and whatever fences were made
  stands_with : (kept fences : ℕ) → mark_events + kept ≤ device.spare → StandsBeside (with_kept kept volume) (record device { fences = fences }) state no_residue
  stands_with kept fences room = record {
    settled = stands.settled;
    sound = stands.sound;
    beside = stands.beside;
    reads = stands.reads;
    knows = knows_with volume kept device.words no_residue stands.knows;
    mark = stands.mark;
    room = room;
  }

  plan_alone : IsPlanFor alone unfenced state (Rename from to) (Move moving)
  plan_alone = record { stands = beside_stands (stands_with 0 0 (let room = stands.room in omega (arith, room))) refl; planned = ready.planned }

  place_alone : (replaced : Option Loss) → HasMovePlace volume moving replaced → HasMovePlace alone moving replaced
  place_alone None has = name_place_alike volume alone refl moving.to_directory moving.new_page has
  place_alone (Some loss) has = tt

  carry_alone : MayCarry alone unfenced (Move moving)
  carry_alone = record {
    going = ready.going;
    unmarked = λ some. ready.unmarked;
    reserved = record {
      places = place_alone moving.replaced ready.reserved.places;
      room = enough_less (events_of (Move moving)) (kept_events volume.marked + volume.kept) (kept_events volume.marked + 0) device.spare (omega arith) ready.reserved.room;
    };
    countable = omega arith;
  }

  first : StandsStage (keeping alone (Move moving)) unfenced (Moves moving Begun)
  first = carrying.stands_first (state, from, to, plan_alone) refl carry_alone

  at_first : IsAt volume.size device.words moving (gone_pages volume moving.replaced) Begun
  at_first = first.at.0

  knows_first : KnowsMove (keeping volume (Move moving)) moving Begun
  knows_first = knows_kept (keeping alone (Move moving)) (volume.kept + events_of (Move moving)) moving Begun first.at.1

  kept_first : HasKept (keeping volume (Move moving)) device (events_in (left_of (keeping volume (Move moving)) (Moves moving Begun)))
  kept_first = subst (λ (events : ℕ). HasKept (keeping volume (Move moving)) device events) (carrying.costs_all (state, from, to, plan_alone) refl)
      (has_kept volume device (Move moving) (bounded alone unfenced state (Rename from to) (Move moving) plan_alone) ready.few (let room = stands.room in omega (arith, room)) ready.reserved)

  pub begins : MayBegin volume device (Move moving)
  begins = (
    inl (moving, refl),
    (λ some. ready.unmarked),
    record { going = ready.going; whole = stands.knows.whole; at = (at_first, knows_first); kept = kept_first },
  )

  -- beside what it keeps there is room for closing
  room_first : mark_events + (volume.kept + events_of (Move moving)) ≤ device.spare
  room_first =
      let room = enough_all (events_of (Move moving)) (kept_events volume.marked + volume.kept) device.spare (more_events moving) ready.reserved.room in
      omega (arith, room)

  planned_first : IsPlannedMove volume.size at_first.first state from to moving
  planned_first = subst (λ (l : List ℕ). IsPlannedMove volume.size l state from to moving) at_first.made (record { tidy = plan_alone.stands.tidy; reads = stands.reads; planned = ready.planned })

  -- it waits, with a name of bytes
  waits : IsName moving.to_name × IsBytes moving.to_name → WaitsToMove (keeping volume (Move moving)) device state from to moving Begun
  waits named = record {
    stands = stands_with (volume.kept + events_of (Move moving)) device.fences room_first;
    going = ready.going;
    unmarked = ready.unmarked;
    at = at_first;
    knows = knows_first;
    start = state;
    planned = planned_first;
    named = named;
    listed = λ i j least most none listed. absurd none;
  }

pub moving_begins : MovingBeginsLaw
moving_begins volume device state from to moving ready = begins volume device state from to moving ready

pub moving_starts : MovingStartsLaw
moving_starts volume device state from to moving ready named = waits volume device state from to moving ready named

-- A rename begins where no other call runs, and at each of its stages it may make its next step.
use Rattle.std.proofs.Common.{◌≡◌, ℕ, ◌<◌, [], length, set, Some, None, sym, ap, subst, ◌∙◌, arith}
use Rattle.pm_trait.specs.DeviceView.{DeviceView}
use Rattle.pm_trait.specs.Unfolds.{events_in}
use Rattle.tree_model.specs.PathText.{Route}
use Rattle.tree_model.specs.Run.{State}
use Rattle.tree_model.specs.declared.command.Command.TheVariants.{Rename}
use Rattle.image_reading.specs.Residue.{Residue, no_residue}
use Rattle.volume.specs.Costs.{events_of}
use Rattle.volume.specs.Stages.{keeping}
use Rattle.volume.specs.Volume.{VolumeView}
use Rattle.volume.specs.declared.plan.Action.TheVariants.{Move}
use Rattle.volume.specs.declared.plan.Moving.{Moving}
use Rattle.rename_ptr.specs.Stages as moves
use Rattle.rename_ptr.specs.declared.rename.Progress.TheVariants.{Begun}
use Rattle.rename_ptr.specs.declared.rename.Stage.TheVariants.{Moving as MovesName}
use Rattle.running_calls.specs.declared.running.Running.{Running}
use Rattle.running_calls.specs.declared.running.Running.TheVariants.{Moves}
use Rattle.running_calls.specs.Stages.{StandsStage, left_of}
use Rattle.waiting_laws.specs.Beside.{IsReady}
use Rattle.waiting_laws.specs.Moving.{WaitsToMove}
use Rattle.waiting_laws.proofs.CostsMoving.{moving_costs}
use Rattle.waiting_laws.proofs.MovingBegins.{moving_starts}
use Rattle.running_laws.specs.Waits.{bytes_of_command}
use Rattle.session_laws.specs.Calls.{Call, Calls, call_at, events_of_call}
use Rattle.session_laws.specs.Going.{IsReadyAmong}
use Rattle.session_laws.specs.Moving.{MoveWaits, IsMoveOf, MoveBeginsLaw, MoveStandsLaw}
use Rattle.session_laws.proofs.MoveBehind.{has_behind}
use Rattle.session_laws.proofs.MoveCalls.{at_set, at_other, none_left}

-- the events that it has left are those of the stage that it is at
pub events_at : (volume : VolumeView) (call : Call) (running : Running) → call.running ≡ running
    → events_of_call volume call ≡ events_in (left_of volume (bytes_of_command call.command) running)
events_at volume call running is = ap (λ (r : Running). events_in (left_of volume (bytes_of_command call.command) r)) is

module _ (volume : VolumeView) (device : DeviceView) (words : State) (calls : Calls) (s : ℕ) (from to : Route) (moving : Moving) (call : Call)
    (none : (r : ℕ) → call_at calls r ≡ None) (within : s < length calls)
    (empty : volume.kept ≡ 0) (ready : IsReadyAmong volume device words (Rename from to) (Move moving) calls) (is : IsMoveOf from to moving call) where
  abbrev keeps : VolumeView
  keeps = keeping volume (Move moving)

  alone : IsReady volume device words (Rename from to) (Move moving) no_residue
  alone = subst (λ (left : Residue). IsReady volume device words (Rename from to) (Move moving) left) (none_left volume calls none) ready.ready

  starts : WaitsToMove keeps device words from to moving Begun
  starts = moving_starts volume device words from to moving alone is.name

  costs : events_of (Move moving) ≡ events_of_call keeps call
  costs = (moving_costs.plan keeps moving starts.knows.losses).events ∙ sym (events_at keeps call (Moves (MovesName moving Begun)) is.running)

  begins : MoveWaits keeps device words (set calls s (Some call)) s call
  begins = record {
    runs = at_set calls s (Some call) within;
    alone = λ r other. at_other calls s r (Some call) other ∙ none r;
    from = from;
    to = to;
    moving = moving;
    progress = Begun;
    command_is = is.command_is;
    running_is = is.running;
    named = is.named;
    waits = starts;
    accepted = λ uncommitted. alone.planned.accepted;
    behind = has_behind keeps call moving Begun starts.knows.losses.count is.running is.behind;
    of_plan = is.behind;
    kept = let same = costs in omega (arith, empty, same);
    few = let few = ready.few in let same = costs in omega (arith, few, same);
  }

pub move_begins_law : MoveBeginsLaw
move_begins_law volume device words calls s from to moving call waits none within empty ready is = begins volume device words calls s from to moving call none within empty ready is

-- ---- it may make its next step

pub move_stands_law : MoveStandsLaw
move_stands_law volume device words calls s call waits =
    let events = events_at volume call (Moves (MovesName waits.moving waits.progress)) waits.running_is in
    let stands = waits.waits.stands in
    let there : moves.StandsStage volume device (MovesName waits.moving waits.progress) = record {
      going = waits.waits.going;
      whole = stands.knows.whole;
      at = (waits.waits.at, waits.waits.knows);
      kept = record {
        among = let kept = waits.kept in omega (arith, kept, events);
        countable = let kept = waits.kept in let few = waits.few in omega (arith, kept, few);
        room = let room = stands.room in omega (arith, room);
      };
    } in
    subst (λ (running : Running). StandsStage volume device [] running) (sym waits.running_is) there

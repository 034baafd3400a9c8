-- A call that runs beside others makes its next step.
use Rattle.std.proofs.Common.{◌≡◌, ℕ, ◌-◌, ◌≤◌, length, set, Some, arith}
use Rattle.pm_trait.specs.DeviceView.{DeviceView}
use Rattle.pm_trait.specs.Unfolds.{events_in}
use Rattle.tree_model.specs.Run.{State}
use Rattle.image_reading.specs.Residue.{no_residue}
use Rattle.volume.specs.Stages.{HasKept}
use Rattle.volume.specs.Volume.{VolumeView}
use Rattle.volume.proofs.Moments.{IsSameBeside}
use Rattle.volume.specs.declared.next.Next.{Next}
use Rattle.volume.specs.declared.next.Next.TheVariants.{More, Ended}
use Rattle.running_calls.specs.declared.running.Running.{Running}
use Rattle.running_calls.specs.Stages.{StandsStage, EntersAt, left_of, step_of}
use Rattle.waiting_laws.specs.Beside.{MakesStep}
use Rattle.running_laws.specs.Waits.{bytes_of_command}
use Rattle.running_laws.proofs.CrashLater.{later_crash_law}
use Rattle.running_laws.proofs.StillWaits.{still_waits_law}
use Rattle.running_laws.proofs.WaitStands.{holds_law, stands_law}
use Rattle.session_laws.specs.Calls.{Call, Calls, call_at, without, left_of_all, events_of_all, ranges_of_all, CallsWait}
use Rattle.session_laws.specs.Going.{GoOnAmongLaw, WentOnAmong, next_call}
use Rattle.session_laws.specs.Histories.{IsHistory}
use Rattle.session_laws.specs.Order.{IsTakenOut}
use Rattle.session_laws.proofs.GoingStored.{enters_same}
use Rattle.session_laws.proofs.CrashGoes.{go_on_crash_law}
use Rattle.session_laws.proofs.HistoryGoes.{history_goes_on_law}
use Rattle.session_laws.proofs.MoveCalls.{within_calls, at_set}
use Rattle.session_laws.proofs.OrderTaken.{take_out_law}
use Rattle.session_laws.proofs.ReadyAsked.{few_kept_law}
use Rattle.sessions.specs.Advanced.{MadeStep}
use Rattle.sessions.specs.Interleave.{beside}
use Rattle.sessions.proofs.GoesFirst.{IsFirst, first_of}
use Rattle.sessions.proofs.GoesIds.{in_range}
use Rattle.sessions.proofs.GoesKnown.{WaitsBehind, BehindNext, WentTo, StandsAt}
use Rattle.sessions.proofs.GoesReplies.{tells_beside}

module _ (go_on_among : GoOnAmongLaw) (volume : VolumeView) (device : DeviceView) (words history : State) (calls : Calls) (s : ℕ) (call : Call)
    (wait : CallsWait volume device words no_residue calls) (all_kept : volume.kept ≡ events_of_all volume calls) (few : length calls ≤ 16)
    (runs : call_at calls s ≡ Some call) (is_history : IsHistory (ranges_of_all calls) history words) where
  taken : IsTakenOut volume device words calls s call
  taken = take_out_law still_waits_law holds_law volume device words calls s call wait runs

  kept : HasKept volume device (events_in (left_of volume (bytes_of_command call.command) call.running))
  kept =
      let most = few_kept_law volume device words calls wait few in
      let events = taken.events in
      let room = wait.beside.stands.room in
      record { among = omega (arith, events, all_kept); countable = omega (arith, most, all_kept); room = omega (arith, room) }

  stands : StandsStage volume device (bytes_of_command call.command) call.running
  stands = stands_law volume device words call.command call.running (left_of_all volume (without calls s)) taken.call_waits.waits kept

  first : IsFirst (left_of volume (bytes_of_command call.command) call.running) (step_of volume (bytes_of_command call.command) call.running)
  first = first_of volume device (bytes_of_command call.command) words call.command (left_of_all volume (without calls s)) call.running taken.call_waits.waits stands

  -- ---- behind the step

  module _ (new : VolumeView) (after : DeviceView) (next : Next Running) (made : MadeStep volume new device after (bytes_of_command call.command) call.running next) where
    makes : MakesStep (step_of volume (bytes_of_command call.command) call.running) (EntersAt call.running) volume new device after
    makes =
        let fits = first.fits in
        let among = kept.among in
        record { kept = omega (arith, fits, among); takes = made.takes; enters = made.enters }

    went : WentOnAmong new after words calls s call next
    went = go_on_among volume new device after words calls s call next wait runs all_kept makes made.next_is made.stands

    same : IsSameBeside (record volume { kept = volume.kept - (step_of volume (bytes_of_command call.command) call.running).events }) new
    same =
        enters_same (record volume { kept = volume.kept - (step_of volume (bytes_of_command call.command) call.running).events }) new call.running made.enters

    all_wait : (left : Next Running) → CallsWait new after went.later no_residue (set calls s (next_call call left))
        → new.kept ≡ events_of_all new (set calls s (next_call call left))
        → WaitsBehind new after went.later (set calls s (next_call call left)) left
    all_wait (More running) waits same = beside waits same
    all_wait (Ended reply) waits same = (waits, same)

    behind_next : (left : Next Running) → CallsWait new after went.later no_residue (set calls s (next_call call left)) → BehindNext new call left
    behind_next (More running) waits =
        let now = record call { running = running } in
        (waits.each s now (at_set calls s (Some now) (within_calls calls s call runs))).behind
    behind_next (Ended reply) waits = tt

    went_to : WentTo volume new after calls history s call next
    went_to = record {
      words = went.later;
      waits = all_wait next went.calls_wait went.kept;
      goes = history_goes_on_law volume device words went.later history calls s call next wait runs made.next_is is_history went.means;
      behind = behind_next next went.calls_wait;
      going = went.calls_wait.beside.going;
      size = same.size;
      marked = same.marked;
    }

  pub stands_beside : StandsAt volume device calls history s call
  stands_beside = record {
    stands = stands;
    first = first;
    behind = taken.call_waits.behind;
    settled = wait.beside.stands.settled;
    whole = wait.beside.stands.knows.whole;
    kept = kept.among;
    room = kept.room;
    id = in_range volume device words call.command (left_of_all volume (without calls s)) call.running taken.call_waits.waits;
    tells = λ next is. tells_beside volume device words call.command (left_of_all volume (without calls s)) call.running next taken.call_waits.waits is;
    crash = λ J M makes mix. go_on_crash_law later_crash_law volume device words history calls s call J M wait runs is_history makes mix;
    goes = went_to;
  }

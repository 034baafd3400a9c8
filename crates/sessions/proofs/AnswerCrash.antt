-- Where calls wait the device is settled, and its words mean the history but for bytes of running writes' ranges. So does all that a crash leaves there,
-- also around an acknowledgement, and so do the words at it.
use Rattle.std.proofs.Common.{◌≡◌, inl, inr, ℕ, false, refl}
use Rattle.pm_trait.specs.Device.{LeavesOnly, AcksSettled}
use Rattle.pm_trait.specs.DeviceView.{DeviceView, Acknowledges}
use Rattle.pm_trait.proofs.AckLaws.{leaves_ack, acks_ack}
use Rattle.tree_model.specs.Run.{State, Line}
use Rattle.image_reading.specs.Residue.{Residue}
use Rattle.volume.specs.Beside.{StandsBeside}
use Rattle.volume.specs.Volume.{VolumeView}
use Rattle.session_laws.specs.Calls.{Calls, ranges_of_all}
use Rattle.session_laws.specs.Histories.{IsCrashOf}
use Rattle.session_laws.proofs.CrashLeaves.{crash_before}
use Rattle.sessions.specs.Interleave.{InterleaveView, AllWait, idle, beside, alone, IsWeaving}
use Rattle.sessions.specs.Steps.{MayBeLeft, AreRunning, IsBeforeOrBehind}

-- the volume goes on, and stands for the words' state beside what the calls have left
pub record StandsThere (volume : VolumeView) (device : DeviceView) (words : State) : Type 0 where
  pub going : volume.stopped ≡ false
  pub residue : Residue
  pub stands : StandsBeside volume device words residue

pub stands_there : (volume : VolumeView) (device : DeviceView) (words : State) (calls : Calls) → AllWait volume device words calls → StandsThere volume device words
stands_there volume device words calls (idle none going kept stands) = record { going = going; residue = _; stands = stands }
stands_there volume device words calls (beside wait kept) = record { going = wait.beside.going; residue = _; stands = wait.beside.stands }
stands_there volume device words calls (alone s call waits begun) = record { going = waits.waits.going; residue = _; stands = waits.waits.stands }

module _ (weave : InterleaveView) (device : DeviceView) (calls : Calls) (history : State) (weaving : IsWeaving weave device calls history) where
  pub weaving_stands : StandsThere weave.volume device weaving.words
  weaving_stands = stands_there weave.volume device weaving.words calls weaving.waits

  -- the words themselves are what a crash may leave
  pub weaving_crash : IsCrashOf weave.volume.size device.words (ranges_of_all calls) history
  weaving_crash =
      let stands = weaving_stands.stands in
      crash_before weave.volume.size device.words weaving.words (ranges_of_all calls) history stands.sound stands.reads weaving.history_is

  -- behind a step of one of earlier calls
  pub weaving_behind : (earlier : Calls) (was : State) (line : Line) (acks : ℕ) → AreRunning earlier was line (ranges_of_all calls)
      → MayBeLeft weave.volume.size earlier was line (IsBeforeOrBehind was history acks) device.words
  weaving_behind earlier was line acks running = record {
    state = history;
    state_is = inr refl;
    ranges = ranges_of_all calls;
    running = running;
    crash = weaving_crash;
  }

  pub weaving_acked : (after : DeviceView) (line : Line) → Acknowledges device after
      → LeavesOnly device.trail after.trail (λ acks image. MayBeLeft weave.volume.size calls history line (IsBeforeOrBehind history history acks) image)
  weaving_acked after line acks =
      leaves_ack (λ count image. MayBeLeft weave.volume.size calls history line (IsBeforeOrBehind history history count) image) weaving_stands.stands.settled acks.trail
      (weaving_behind calls history line 0 (λ range among. inl among)) (weaving_behind calls history line 1 (λ range among. inl among))

  pub weaving_settled : (after : DeviceView) → Acknowledges device after
      → AcksSettled device.trail after.trail (λ acks words. IsCrashOf weave.volume.size words (ranges_of_all calls) history)
  weaving_settled after acks = acks_ack (λ count words. IsCrashOf weave.volume.size words (ranges_of_all calls) history) weaving_stands.stands.settled acks.trail weaving_crash

-- One call among others: taken out of them, and put among them. In which order calls stand doesn't matter.
use Rattle.std.specs.Prelude.{◌≡◌, ℕ, ◌+◌, ◌<◌, length, set, None, Some}
use Rattle.pm_trait.specs.DeviceView.{DeviceView}
use Rattle.tree_model.specs.Run.{State}
use Rattle.image_reading.specs.Residue.{no_residue}
use Rattle.volume.specs.Volume.{VolumeView}
use Rattle.running_laws.specs.Waits.{left_by}
use Rattle.session_laws.specs.Calls.{Call, Calls, call_at, without, left_of_all, events_of_all, events_of_call, IsApartFrom, CallWaits, CallsWait}

-- The others wait beside what it has left, and it beside what they have left.
pub record IsTakenOut (volume : VolumeView) (device : DeviceView) (words : State) (calls : Calls) (s : ℕ) (call : Call) : Type 0 where
  pub others : CallsWait volume device words (left_by volume call.running) (without calls s)
  pub call_waits : CallWaits volume device words call (left_of_all volume (without calls s))
  pub apart : IsApartFrom volume call (without calls s)
  pub events : events_of_all volume calls ≡ events_of_call volume call + events_of_all volume (without calls s)

abbrev pub TakeOutLaw : Type 0
TakeOutLaw = (volume : VolumeView) (device : DeviceView) (words : State) (calls : Calls) (s : ℕ) (call : Call) → CallsWait volume device words no_residue calls → call_at calls s ≡ Some call
    → IsTakenOut volume device words calls s call

-- And so it is put in, where a session runs none.
pub record IsPutIn (volume : VolumeView) (device : DeviceView) (words : State) (calls : Calls) (s : ℕ) (call : Call) : Type 0 where
  pub calls_wait : CallsWait volume device words no_residue (set calls s (Some call))
  pub events : events_of_all volume (set calls s (Some call)) ≡ events_of_call volume call + events_of_all volume calls

abbrev pub PutInLaw : Type 0
PutInLaw = (volume : VolumeView) (device : DeviceView) (words : State) (calls : Calls) (s : ℕ) (call : Call) → CallsWait volume device words (left_by volume call.running) calls
    → call_at calls s ≡ None → s < length calls → CallWaits volume device words call (left_of_all volume calls) → IsApartFrom volume call calls
    → IsPutIn volume device words calls s call

-- One call makes a step, and the others wait still.
use Rattle.std.specs.Prelude.{◌≡◌, ℕ, ◌≤◌, false, Some}
use Rattle.pm_trait.specs.DeviceView.{DeviceView}
use Rattle.tree_model.specs.Run.{State}
use Rattle.naming_laws.specs.Still.{FindsSame}
use Rattle.image_reading.specs.Counts.{IsIn}
use Rattle.image_reading.specs.Residue.{Residue}
use Rattle.weave_laws.specs.Beside.{AreInVolume, AreApart}
use Rattle.volume.specs.Volume.{VolumeView}
use Rattle.volume.specs.Beside.{IsUntouched}
use Rattle.running_laws.specs.Waits.{held_by}
use Rattle.running_laws.specs.Steps.{has_committed}
use Rattle.waiting_laws.specs.Beside.{Holding, NamesNothing, Leaves, KeepsNodes}
use Rattle.session_laws.specs.Calls.{Call, Calls, call_at, left_of_all, events_of_all, CallsWait}

-- What it holds is apart from what the other holds, and the other's nodes stay.
pub record PassesCall (volume : VolumeView) (words later : State) (held : Holding) (other : Call) : Type 0 where
  pub apart : AreApart held.slots held.pages held.inodes (held_by volume other.running).slots (held_by volume other.running).pages (held_by volume other.running).inodes
  pub keeps : KeepsNodes (held_by volume other.running).inodes words later

-- What the step leaves of its call, where the others have left this: what it holds is the volume's, and it touches nothing else;
-- what each of the others finds whose command is to come is the same.
pub record StepsBeside (old new : VolumeView) (before after : DeviceView) (words later : State) (next : Residue) (held : Holding) (calls : Calls) : Type 0 where
  pub leaves : Leaves old new before after later next (left_of_all old calls) held
  pub in_volume : AreInVolume old.size held.pages held.inodes
  pub passes : (s : ℕ) (other : Call) → call_at calls s ≡ Some other → PassesCall old words later held other
  pub untouched : (i : ℕ) → ¬ IsIn i held.inodes → 1 ≤ i → IsUntouched new after.words next i
  pub bare : NamesNothing new.size after.words next
  pub finds : (s : ℕ) (other : Call) → call_at calls s ≡ Some other → has_committed other.running ≡ false → FindsSame other.command words later

pub record OthersWait (old new : VolumeView) (after : DeviceView) (later : State) (next : Residue) (calls : Calls) : Type 0 where
  pub calls_wait : CallsWait new after later next calls
  pub left : left_of_all new calls ≡ left_of_all old calls
  pub events : events_of_all new calls ≡ events_of_all old calls

abbrev pub OthersWaitLaw : Type 0
OthersWaitLaw = (old new : VolumeView) (before after : DeviceView) (words later : State) (own next : Residue) (held : Holding) (calls : Calls)
    → CallsWait old before words own calls → StepsBeside old new before after words later next held calls
    → OthersWait old new after later next calls

-- What callers see of a session, and of a volume with its device.
use Rattle.std.specs.Prelude.{ℕ, List}
use Rattle.pm_trait.specs.DeviceView.{DeviceView}
use Rattle.volume.specs.Volume.{VolumeView}

-- the volume that it works on, and the bytes of the last read
pub record SessionView : Type 0 where
  pub volume : VolumeView
  pub bytes : List ℕ

abbrev pub session_of : VolumeView → List ℕ → SessionView
session_of volume bytes = record { volume = volume; bytes = bytes }

-- a session and the device that its volume is on
pub record Mounted : Type 0 where
  pub session : SessionView
  pub open session use *
  pub device : DeviceView

abbrev pub on : SessionView → DeviceView → Mounted
on session device = record { session = session; device = device }

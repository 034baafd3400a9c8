-- Sessions as they start stand on the volume as mounted.
use Rattle.std.proofs.Common.{◌≡◌, ℕ, sym, ap, subst}
use Rattle.pm_trait.specs.DeviceView.{DeviceView}
use Rattle.volume.specs.Volume.{VolumeView}
use Rattle.volume.specs.Stands.{IsStanding}
use Rattle.sessions.specs.Interleave.{InterleaveView, started}

pub stands_started : (weave : InterleaveView) (volume : VolumeView) (device : DeviceView) (sessions : ℕ) → weave ≡ started volume sessions → IsStanding volume device
    → IsStanding weave.volume device
stands_started weave volume device sessions is stands = subst (λ (v : VolumeView). IsStanding v device) (sym (ap (λ (w : InterleaveView). w.volume) is)) stands

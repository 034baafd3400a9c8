-- What goes on of a running call over one of its steps: the events that are kept for it, and where the index is the same its name and its places.
use Rattle.std.proofs.Common.{◌≡◌, ℕ, ◌+◌, ◌-◌, ◌≤◌, List, Option, sym, subst, arith}
use Rattle.std.specs.Prelude.{Result, Ok, OnOk}
use Rattle.pm_trait.specs.DeviceView.{DeviceView}
use Rattle.volume.specs.Volume.{VolumeView}
use Rattle.volume.specs.Entered.{HasNamePlace, MayPutName}
use Rattle.volume.specs.Stages.{HasKept, Advances}
use Rattle.volume.proofs.MayStill.{may_put_alike, name_place_alike}

-- those of the step are among those that are kept
pub kept_enough : {volume : VolumeView} {device : DeviceView} (events later : ℕ) → HasKept volume device (events + later) → events ≤ volume.kept
kept_enough events later has = let among = has.among in omega (arith, among)

-- and behind it those of the later steps are
pub kept_on : {volume after : VolumeView} {device now : DeviceView} (events later : ℕ) → HasKept volume device (events + later) → after.kept ≡ volume.kept - events → device.spare ≤ now.spare + events → HasKept after now later
kept_on events later has kept room =
    let among = has.among in
    let countable = has.countable in
    let enough = has.room in
    record { among = omega (arith, among, kept); countable = omega (arith, countable, kept); room = omega (arith, among, enough, kept, room) }

-- where its fence succeeded, the volume keeps less, and is as it was else
pub settled : {T E : Type 0} {value : T} {made : Result T E} {old new : VolumeView} (events : ℕ) → Ok value ≡ made → Advances events (λ old new. new ≡ old) old new made → new ≡ record old { kept = old.kept - events }
settled {old = old} {new = new} events same advances = subst (λ result. OnOk result (new ≡ record old { kept = old.kept - events })) (sym same) advances.made

module _ (volume after : VolumeView) (same : after.index ≡ volume.index) (d : ℕ) where
  pub name_still : (name : List ℕ) → MayPutName volume d name → MayPutName after d name
  name_still = may_put_alike volume after same d

  pub place_still : (new_page : Option ℕ) → HasNamePlace volume d new_page → HasNamePlace after d new_page
  place_still = name_place_alike volume after same d

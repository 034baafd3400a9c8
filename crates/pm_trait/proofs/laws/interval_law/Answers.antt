use Rattle.std.proofs.Common.{refl}
use Rattle.pm_trait.proofs.DeviceLaws.{interval_leaves, interval_acks, leaves_quiet}
use Rattle.pm_trait.proofs.laws.interval_law.Goals as goal

pub returns : goal.returns
returns c = λ is_stored a b ta tb settled run. leaves_quiet (interval_acks run) (interval_leaves settled run) (λ image mix. (refl, mix))

use Rattle.std.proofs.Common.{refl}
use Rattle.pm_trait.proofs.DeviceLaws.{settled_leaves}
use Rattle.pm_trait.proofs.laws.settled_law.Goals as goal

pub returns : goal.returns
returns c = λ now image trail settled may. settled_leaves now trail _ image settled refl may

use Rattle.moving_laws.proofs.Pointed.{pointed_law}
use Rattle.moving_laws.proofs.pointed_law.Goals as goal

pub returns : goal.returns
returns c = pointed_law

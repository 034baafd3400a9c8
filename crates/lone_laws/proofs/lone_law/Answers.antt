use Rattle.lone_laws.proofs.Lone.{lone_law}
use Rattle.lone_laws.proofs.lone_law.Goals as goal

pub returns : goal.returns
returns c = lone_law

use Rattle.knowing_laws.proofs.quiet_law.Goals as goal
use Rattle.knowing_laws.proofs.Quiet as lemmas

pub returns : goal.returns
returns c = lemmas.quiet_known_law

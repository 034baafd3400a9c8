use Rattle.repair_laws.proofs.repair_law.Goals as goal
use Rattle.repair_laws.proofs.Freeing as lemmas

pub returns : goal.returns
returns c = lemmas.repair_law

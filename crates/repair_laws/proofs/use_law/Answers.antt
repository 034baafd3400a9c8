use Rattle.repair_laws.proofs.use_law.Goals as goal
use Rattle.repair_laws.proofs.Uses as lemmas

pub returns : goal.returns
returns c = lemmas.use_law

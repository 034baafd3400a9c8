use Rattle.repair_laws.proofs.end_law.Goals as goal
use Rattle.repair_laws.proofs.Ends as lemmas

pub returns : goal.returns
returns c = lemmas.end_law

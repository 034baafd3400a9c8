use Rattle.repair_laws.proofs.index_law.Goals as goal
use Rattle.repair_laws.proofs.Mended as lemmas

pub returns : goal.returns
returns c = lemmas.index_law

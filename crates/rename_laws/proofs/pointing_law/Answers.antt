use Rattle.rename_laws.proofs.pointing_law.Goals as goal
use Rattle.rename_laws.proofs.Pointing as lemmas

pub returns : goal.returns
returns c = lemmas.pointing_law

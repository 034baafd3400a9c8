use Rattle.naming_laws.proofs.Stays as lemmas
use Rattle.naming_laws.proofs.untouched_law.Goals as goal

pub returns : goal.returns
returns c = lemmas.untouched_law

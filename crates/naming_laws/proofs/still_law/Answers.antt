use Rattle.naming_laws.proofs.Still as lemmas
use Rattle.naming_laws.proofs.still_law.Goals as goal

pub returns : goal.returns
returns c = lemmas.still_law

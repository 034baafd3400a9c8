use Rattle.naming_laws.proofs.torn_law.Goals as goal
use Rattle.naming_laws.proofs.Torn as lemmas

pub returns : goal.returns
returns c = lemmas.torn_law

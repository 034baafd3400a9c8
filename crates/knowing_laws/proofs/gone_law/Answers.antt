use Rattle.knowing_laws.proofs.gone_law.Goals as goal
use Rattle.knowing_laws.proofs.Gone as lemmas

pub returns : goal.returns
returns c = lemmas.name_gone_law

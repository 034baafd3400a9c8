use Rattle.content_laws.proofs.inside_law.Goals as goal
use Rattle.content_laws.proofs.Inside as lemmas

pub returns : goal.returns
returns c = lemmas.inside_law

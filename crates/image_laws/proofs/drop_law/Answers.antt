use Rattle.image_laws.proofs.drop_law.Goals as goal
use Rattle.image_laws.proofs.DropTidy as lemmas

pub returns : goal.returns
returns c = lemmas.drop_law

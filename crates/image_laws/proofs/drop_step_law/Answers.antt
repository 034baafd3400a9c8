use Rattle.image_laws.proofs.drop_step_law.Goals as goal
use Rattle.image_laws.proofs.DropStates as lemmas

pub returns : goal.returns
returns c = lemmas.drop_step_law

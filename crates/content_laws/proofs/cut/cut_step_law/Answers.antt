use Rattle.content_laws.proofs.cut.cut_step_law.Goals as goal
use Rattle.content_laws.proofs.CutStates as lemmas

pub returns : goal.returns
returns c = lemmas.cut_step_law

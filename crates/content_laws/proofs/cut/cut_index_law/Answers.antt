use Rattle.content_laws.proofs.cut.cut_index_law.Goals as goal
use Rattle.content_laws.proofs.CutTidy as lemmas

pub returns : goal.returns
returns c = lemmas.cut_index_law

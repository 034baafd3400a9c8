use Rattle.image_counts.proofs.size_law.Goals as goal
use Rattle.image_counts.proofs.Nodes as lemmas

pub returns : goal.returns
returns c = lemmas.size_law

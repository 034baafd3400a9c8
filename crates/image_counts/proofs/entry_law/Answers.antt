use Rattle.image_counts.proofs.entry_law.Goals as goal
use Rattle.image_counts.proofs.Paths as lemmas

pub returns : goal.returns
returns c = lemmas.entry_law

use Rattle.image_counts.proofs.state_law.Goals as goal
use Rattle.image_counts.proofs.States as lemmas

pub returns : goal.returns
returns c = lemmas.state_law

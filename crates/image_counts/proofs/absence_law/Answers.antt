use Rattle.image_counts.proofs.absence_law.Goals as goal
use Rattle.image_counts.proofs.Slots as lemmas

pub returns : goal.returns
returns c = lemmas.absence_law

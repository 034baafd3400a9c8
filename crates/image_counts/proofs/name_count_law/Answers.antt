use Rattle.image_counts.proofs.name_count_law.Goals as goal
use Rattle.image_counts.proofs.Slots as lemmas

pub returns : goal.returns
returns c = lemmas.name_count_law

use Rattle.remounts.proofs.Followed as lemmas
use Rattle.remounts.proofs.follow_law.Goals as goal

pub returns : goal.returns
returns c = lemmas.follow_law

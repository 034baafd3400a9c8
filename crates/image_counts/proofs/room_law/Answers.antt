use Rattle.image_counts.proofs.room_law.Goals as goal
use Rattle.image_counts.proofs.Beside as besides
use Rattle.image_counts.proofs.Tidied as lemmas

pub returns-clause-beside : goal.returns-clause-beside
returns-clause-beside c = besides.room_beside_law

pub returns-clause-tidy : goal.returns-clause-tidy
returns-clause-tidy c = lemmas.room_law

use Rattle.image_counts.proofs.page_count_law.Goals as goal
use Rattle.image_counts.proofs.Beside as besides
use Rattle.image_counts.proofs.Tidied as lemmas

pub returns-clause-beside : goal.returns-clause-beside
returns-clause-beside c = besides.page_count_beside_law

pub returns-clause-tidy : goal.returns-clause-tidy
returns-clause-tidy c = lemmas.page_count_law

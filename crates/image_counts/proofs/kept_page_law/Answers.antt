use Rattle.image_counts.proofs.kept_page_law.Goals as goal
use Rattle.image_counts.proofs.Pages as lemmas

pub returns : goal.returns
returns c = lemmas.kept_page_law

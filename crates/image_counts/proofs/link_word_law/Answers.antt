use Rattle.image_counts.proofs.link_word_law.Goals as goal
use Rattle.image_counts.proofs.Links as lemmas

pub returns-clause-beside : goal.returns-clause-beside
returns-clause-beside c = lemmas.link_word_beside_law

pub returns-clause-tidy : goal.returns-clause-tidy
returns-clause-tidy c = lemmas.link_word_law

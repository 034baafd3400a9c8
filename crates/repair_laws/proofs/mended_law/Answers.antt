use Rattle.repair_laws.proofs.mended_law.Goals as goal
use Rattle.repair_laws.proofs.Mended as lemmas

pub returns-clause-some : goal.returns-clause-some
returns-clause-some c = lemmas.some_law

pub returns-clause-one : goal.returns-clause-one
returns-clause-one c = lemmas.one_mended

pub returns-clause-means : goal.returns-clause-means
returns-clause-means c = lemmas.mended_law

pub returns-clause-tidy : goal.returns-clause-tidy
returns-clause-tidy c = lemmas.tidy_law

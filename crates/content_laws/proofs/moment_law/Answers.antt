use Rattle.content_laws.proofs.moment_law.Goals as goal
use Rattle.content_laws.proofs.Moments as lemmas

pub returns-clause-hangs : goal.returns-clause-hangs
returns-clause-hangs c = lemmas.growth_hangs_law

pub returns-clause-inside : goal.returns-clause-inside
returns-clause-inside c = lemmas.inside_once_law

pub returns-clause-growth : goal.returns-clause-growth
returns-clause-growth c = lemmas.growth_once_law

use Rattle.content_laws.proofs.growth_law.Goals as goal
use Rattle.content_laws.proofs.Growth as lemmas
use Rattle.content_laws.proofs.Moments as moments

pub returns-clause-filling : goal.returns-clause-filling
returns-clause-filling c = moments.filling_law

pub returns-clause-taking : goal.returns-clause-taking
returns-clause-taking c = moments.taking_law

pub returns-clause-end : goal.returns-clause-end
returns-clause-end c = lemmas.growth_law

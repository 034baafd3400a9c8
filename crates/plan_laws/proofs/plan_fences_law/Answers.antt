use Rattle.plan_laws.proofs.plan_fences_law.Goals as goal
use Rattle.plan_laws.proofs.PlanFences as lemmas

pub returns-clause-alone : goal.returns-clause-alone
returns-clause-alone c = lemmas.plan_fences_law

pub returns-clause-beside : goal.returns-clause-beside
returns-clause-beside c = lemmas.plan_fences_beside_law

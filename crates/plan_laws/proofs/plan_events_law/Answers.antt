use Rattle.plan_laws.proofs.plan_events_law.Goals as goal
use Rattle.plan_laws.proofs.PlanEvents as lemmas

pub returns : goal.returns
returns c = lemmas.plan_events_law

use Rattle.running_laws.proofs.CostPlan.{plan_costs_law}
use Rattle.running_laws.proofs.CostStep.{step_costs_law}
use Rattle.running_laws.proofs.WaitLeft.{held_is_left_law}
use Rattle.running_laws.proofs.number_law.Goals as goal

pub returns-clause-plan : goal.returns-clause-plan
returns-clause-plan c = plan_costs_law

pub returns-clause-step : goal.returns-clause-step
returns-clause-step c = step_costs_law

pub returns-clause-held : goal.returns-clause-held
returns-clause-held c = held_is_left_law

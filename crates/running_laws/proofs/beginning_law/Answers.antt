use Rattle.running_laws.proofs.BeginReady.{begins_law}
use Rattle.running_laws.proofs.BeginSteps.{first_step_law}
use Rattle.running_laws.proofs.beginning_law.Goals as goal

pub returns-clause-begins : goal.returns-clause-begins
returns-clause-begins c = begins_law

pub returns-clause-first : goal.returns-clause-first
returns-clause-first c = first_step_law

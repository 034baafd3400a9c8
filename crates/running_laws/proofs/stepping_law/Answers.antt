use Rattle.running_laws.proofs.LaterSteps.{later_step_law}
use Rattle.running_laws.proofs.stepping_law.Goals as goal

pub returns : goal.returns
returns c = later_step_law

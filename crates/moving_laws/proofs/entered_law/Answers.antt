use Rattle.moving_laws.proofs.Entered.{moved_state_law}
use Rattle.moving_laws.proofs.entered_law.Goals as goal

pub returns : goal.returns
returns c = moved_state_law

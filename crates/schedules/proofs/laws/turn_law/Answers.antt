use Rattle.schedules.proofs.TurnLaw.{turn_law}
use Rattle.schedules.proofs.laws.turn_law.Goals as goal

pub returns : goal.returns
returns c = turn_law

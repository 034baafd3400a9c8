use Rattle.schedules.proofs.HistoryLaw.{history_law}
use Rattle.schedules.proofs.TurnLaw.{turn_law}
use Rattle.schedules.proofs.laws.history_law.Goals as goal

pub returns : goal.returns
returns c = history_law turn_law

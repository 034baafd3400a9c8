use Rattle.squirrel_cli.proofs.Completes.{complete_law-holds}
use Rattle.squirrel_cli.proofs.laws.complete_law.Goals as goal

pub returns : goal.returns
returns g c = complete_law-holds g.S.Source g.K.Sink

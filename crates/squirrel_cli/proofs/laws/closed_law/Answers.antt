use Rattle.squirrel_cli.proofs.Completes.{closed_law-holds}
use Rattle.squirrel_cli.proofs.laws.closed_law.Goals as goal

pub returns : goal.returns
returns g c = closed_law-holds g.S.Source g.K.Sink

use Rattle.squirrel_cli.proofs.Completes.{replay_complete_law-holds}
use Rattle.squirrel_cli.proofs.laws.replay_complete_law.Goals as goal

pub returns : goal.returns
returns g c = replay_complete_law-holds g.S.Source g.K.Sink

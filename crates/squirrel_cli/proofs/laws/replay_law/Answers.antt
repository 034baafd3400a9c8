use Rattle.squirrel_cli.proofs.ReplayTells.{replay_law-holds}
use Rattle.squirrel_cli.proofs.laws.replay_law.Goals as goal

pub returns : goal.returns
returns c = replay_law-holds

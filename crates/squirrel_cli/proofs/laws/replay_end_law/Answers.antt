use Rattle.squirrel_cli.proofs.ReplayTells.{replay_end_law-holds}
use Rattle.squirrel_cli.proofs.laws.replay_end_law.Goals as goal

pub returns : goal.returns
returns c = replay_end_law-holds

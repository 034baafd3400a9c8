use Rattle.crash_replay.proofs.Replays.{replay_law-holds}
use Rattle.crash_replay.proofs.laws.replay_law.Goals as goal

pub returns : goal.returns
returns c = replay_law-holds

use Rattle.crash_replay.proofs.Tallies.{tally_law-holds}
use Rattle.crash_replay.proofs.laws.tally_law.Goals as goal

pub returns : goal.returns
returns c = tally_law-holds

use Rattle.crash_replay.proofs.WorkScripts.{work_law-holds}
use Rattle.crash_replay.proofs.laws.work_law.Goals as goal

pub returns : goal.returns
returns c = work_law-holds

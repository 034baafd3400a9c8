use Rattle.std.proofs.Common.{MatchOption}
use Rattle.sessions.proofs.TaskNamed.{AreNoneBelow, IsLeastBelow}
use Rattle.sessions.proofs.task.least_of.Given as goal

abbrev pub invariant-loop-k : goal.invariant-loop-k
invariant-loop-k l = MatchOption l.least (AreNoneBelow l.inodes l.nodes l.k) (IsLeastBelow l.inodes l.nodes l.k)

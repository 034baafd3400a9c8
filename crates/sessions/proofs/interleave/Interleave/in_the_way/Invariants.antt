use Rattle.sessions.proofs.TaskWays.{IsFoundBelow}
use Rattle.sessions.proofs.interleave.Interleave.in_the_way.Given as goal

abbrev pub invariant-loop-k : goal.invariant-loop-k
invariant-loop-k l = IsFoundBelow l.self.tasks l.named l.k l.least

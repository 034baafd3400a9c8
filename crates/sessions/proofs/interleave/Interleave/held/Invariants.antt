use Rattle.sessions.proofs.TaskLists.{IsCountedTo}
use Rattle.sessions.proofs.interleave.Interleave.held.Given as goal

abbrev pub invariant-loop-k : goal.invariant-loop-k
invariant-loop-k l = IsCountedTo l.self.tasks l.k l.held

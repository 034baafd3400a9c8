use Rattle.std.proofs.Common.{◌≡◌, replicate, None}
use Rattle.sessions.proofs.interleave.Interleave.start.Given as goal

abbrev pub invariant-loop-session : goal.invariant-loop-session
invariant-loop-session l = l.tasks.items ≡ replicate l._session None

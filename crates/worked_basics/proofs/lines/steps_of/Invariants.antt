use Rattle.std.proofs.Common.{◌≡◌, [], IsTrue}
use Rattle.io_edge.specs.MemSource.{bytes_left}
use Rattle.script.specs.Reader.{has_ended}
use Rattle.worked_basics.proofs.lines.steps_of.Given as goal

abbrev pub invariant-steps : goal.invariant-steps
invariant-steps l = IsTrue (has_ended l.lines) → bytes_left l.source ≡ []

use Rattle.std.proofs.Common.{◌≡◌}
use Rattle.volatile_index.specs.Index.{inodes_of_index}
use Rattle.worked_calls.proofs.index.fill.Given as goal

abbrev pub invariant-loop-slot : goal.invariant-loop-slot
invariant-loop-slot l = inodes_of_index l.index ≡ 4

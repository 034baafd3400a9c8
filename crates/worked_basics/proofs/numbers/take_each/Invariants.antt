use Rattle.std.proofs.Common.{◌≡◌, length}
use Rattle.worked_basics.proofs.numbers.take_each.Given as goal

abbrev pub invariant-loop-k : goal.invariant-loop-k
invariant-loop-k l = length l.numbers ≡ length l.fn.numbers

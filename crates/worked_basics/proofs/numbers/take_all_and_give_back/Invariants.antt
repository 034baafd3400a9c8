use Rattle.std.proofs.Common.{◌≡◌, length}
use Rattle.worked_basics.proofs.numbers.take_all_and_give_back.Given as goal

abbrev pub invariant-loop-back : goal.invariant-loop-back
invariant-loop-back l = length l.numbers ≡ l.n

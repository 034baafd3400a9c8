use Rattle.std.proofs.Common.{◌≡◌, take}
use Rattle.volume.specs.Entered.{with_given}
use Rattle.volume.proofs.leaving.give_all.Given as goal

abbrev pub invariant-loop-number : goal.invariant-loop-number
invariant-loop-number l = l.free ≡ with_given l.fn.free (take l.number-index l.numbers)

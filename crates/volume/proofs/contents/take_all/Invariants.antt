use Rattle.std.proofs.Common.{◌≡◌, take}
use Rattle.volume.specs.Entered.{with_taken}
use Rattle.volume.proofs.contents.take_all.Given as goal

abbrev pub invariant-loop-number : goal.invariant-loop-number
invariant-loop-number l = l.free ≡ with_taken l.fn.free (take l.number-index l.numbers)

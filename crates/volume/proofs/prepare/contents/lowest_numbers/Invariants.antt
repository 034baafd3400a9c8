use Rattle.std.proofs.Common.{◌-◌, ◌≤◌, length}
use Rattle.volume.proofs.LowestPages.{AreFreeBelow}
use Rattle.volume.proofs.prepare.contents.lowest_numbers.Given as goal

abbrev pub invariant-loop-number : goal.invariant-loop-number
invariant-loop-number l = record {
  listed : AreFreeBelow l.free l.from l.numbers.items;
  few : length l.numbers.items ≤ l.count;
}

abbrev pub decreases-loop-number : goal.decreases-loop-number
decreases-loop-number l = l.count - length l.numbers.items

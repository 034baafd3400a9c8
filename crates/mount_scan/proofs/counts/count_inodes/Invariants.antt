use Rattle.std.proofs.Common.{◌+◌}
use Rattle.mount_scan.specs.Counting.{CountsInodes}
use Rattle.mount_scan.proofs.counts.count_inodes.Given as goal

abbrev pub invariant-loop-number : goal.invariant-loop-number
invariant-loop-number l = CountsInodes l.scanned.image.geometry.pages l.scanned.image.words.now (l.number + 1) l.counts

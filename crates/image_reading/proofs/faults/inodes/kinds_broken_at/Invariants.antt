use Rattle.std.proofs.Common.{ℕ, ◌<◌}
use Rattle.image_reading.specs.Soundness.{IsWellFormed}
use Rattle.image_reading.proofs.faults.inodes.kinds_broken_at.Given as goal

abbrev pub invariant-loop-inode : goal.invariant-loop-inode
invariant-loop-inode l = (x : ℕ) → x < l.inode → IsWellFormed l.walked.image.geometry.pages l.walked.image.words.now x

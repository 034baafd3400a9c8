use Rattle.std.proofs.Common.{ℕ, ◌<◌}
use Rattle.image_reading.specs.Soundness.{IsNotTooBig}
use Rattle.image_reading.proofs.faults.inodes.sizes_broken_at.Given as goal

abbrev pub invariant-loop-inode : goal.invariant-loop-inode
invariant-loop-inode l = (x : ℕ) → x < l.inode → IsNotTooBig l.walked.image.geometry.pages l.walked.image.words.now x

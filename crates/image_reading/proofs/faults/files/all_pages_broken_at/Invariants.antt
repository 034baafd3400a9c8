use Rattle.std.proofs.Common.{ℕ, ◌<◌}
use Rattle.image_reading.specs.Scan.{AreStamps}
use Rattle.image_reading.specs.Soundness.{HasAllPages}
use Rattle.image_reading.proofs.faults.files.all_pages_broken_at.Given as goal

abbrev pub invariant-loop-inode : goal.invariant-loop-inode
invariant-loop-inode l = record {
  kept : (x : ℕ) → x < l.inode → HasAllPages l.walked.image.geometry.pages l.walked.image.words.now x;
  stamps : AreStamps l.walked.image.geometry.pages l.inode l.stamps;
}

use Rattle.std.proofs.Common.{◌≢◌, ℕ, ◌<◌}
use Rattle.layout.specs.Geometry.{data_pages_of}
use Rattle.layout.specs.Fields.{page_owner}
use Rattle.image_reading.specs.Scan.{AreStamps}
use Rattle.image_reading.specs.Soundness.{HasOwnOffset}
use Rattle.image_reading.proofs.faults.files.own_offsets_broken_at.Given as goal

abbrev pub invariant-loop-inode : goal.invariant-loop-inode
invariant-loop-inode l = record {
  kept : (x : ℕ) → x < l.least → page_owner l.walked.image.geometry.pages l.walked.image.words.now x < l.inode → HasOwnOffset l.walked.image.geometry.pages l.walked.image.words.now x;
  broken : l.least ≢ data_pages_of l.walked.image.geometry.pages → HasOwnOffset l.walked.image.geometry.pages l.walked.image.words.now l.least → ⊥;
  stamps : AreStamps l.walked.image.geometry.pages l.inode l.stamps;
}

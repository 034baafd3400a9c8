use Rattle.std.proofs.Common.{◌≡◌, ℕ, ◌<◌, length, slice_index}
use Rattle.image_reading.specs.Reading.{IsLinkCount}
use Rattle.recovery.proofs.plan.counts_of.Given as goal

abbrev pub invariant-loop-inode : goal.invariant-loop-inode
invariant-loop-inode l = record {
  size : length l.counts.items ≡ l.inode-index;
  each : (place : ℕ) → place < l.inode-index → IsLinkCount l.scanned.image.geometry.pages l.scanned.image.words.now (slice_index l.inodes place) (slice_index l.counts.items place);
}

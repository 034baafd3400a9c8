use Rattle.std.proofs.Common.{ℕ, ◌≤◌}
use Rattle.image_reading.specs.Litter.{IsTidyInode}
use Rattle.image_reading.proofs.tidy.has_tidy_inodes.Given as goal

abbrev pub invariant-loop-number : goal.invariant-loop-number
invariant-loop-number l = (i : ℕ) → 1 ≤ i → i ≤ l.number → IsTidyInode l.scanned.image.geometry.pages l.scanned.image.words.now i

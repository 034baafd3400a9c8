use Rattle.std.proofs.Common.{◌+◌}
use Rattle.image_reading.specs.Repairs.{IsLitterInode}
use Rattle.recovery.specs.Listing.{IsListBelow}
use Rattle.recovery.proofs.plan.litter_inodes.Given as goal

abbrev pub invariant-loop-number : goal.invariant-loop-number
invariant-loop-number l = IsListBelow (IsLitterInode l.scanned.image.geometry.pages l.scanned.image.words.now) (l.number + 1) l.inodes.items

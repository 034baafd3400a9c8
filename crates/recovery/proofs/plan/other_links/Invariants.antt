use Rattle.std.proofs.Common.{◌+◌}
use Rattle.image_reading.specs.Repairs.{IsLitterCount}
use Rattle.recovery.specs.Listing.{IsListBelow}
use Rattle.recovery.proofs.plan.other_links.Given as goal

abbrev pub invariant-loop-number : goal.invariant-loop-number
invariant-loop-number l = IsListBelow (IsLitterCount l.scanned.image.geometry.pages l.scanned.image.words.now) (l.number + 1) l.inodes.items

use Rattle.std.proofs.Common.{◌*◌}
use Rattle.repair_laws.specs.Stored.{HasDeadName}
use Rattle.recovery.specs.Listing.{IsListBelow}
use Rattle.recovery.proofs.plan.dead_names.Given as goal

abbrev pub invariant-loop-page : goal.invariant-loop-page
invariant-loop-page l = IsListBelow (HasDeadName l.scanned.image.geometry.pages l.scanned.image.words.now) (32 * l.page) l.slots.items

use Rattle.std.proofs.Common.{◌+◌, ◌*◌}
use Rattle.repair_laws.specs.Stored.{HasDeadName}
use Rattle.recovery.specs.Listing.{IsListBelow}
use Rattle.recovery.proofs.plan.push_dead_names.Given as goal

abbrev pub invariant-loop-place : goal.invariant-loop-place
invariant-loop-place l = IsListBelow (HasDeadName l.scanned.image.geometry.pages l.scanned.image.words.now) (32 * l.page + l.place) l.slots.items

use Rattle.repair_laws.specs.Stored.{HasNeedlessOwner}
use Rattle.recovery.specs.Listing.{IsListBelow}
use Rattle.recovery.proofs.plan.needless_owners.Given as goal

abbrev pub invariant-loop-page : goal.invariant-loop-page
invariant-loop-page l = IsListBelow (HasNeedlessOwner l.scanned.image.geometry.pages l.scanned.image.words.now) l.page l.pages.items

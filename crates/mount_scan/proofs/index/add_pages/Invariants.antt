use Rattle.std.proofs.Common.{[]}
use Rattle.mount_scan.specs.Building.{OfMended, Holds}
use Rattle.mount_scan.proofs.index.add_pages.Given as goal

abbrev pub invariant-loop-page : goal.invariant-loop-page
invariant-loop-page l = OfMended l.scanned (λ P K. Holds P K l.page [] 0 l.index)

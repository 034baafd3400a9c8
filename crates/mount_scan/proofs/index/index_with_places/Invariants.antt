use Rattle.mount_scan.specs.Building.{OfMended, HasPlaces}
use Rattle.mount_scan.proofs.index.index_with_places.Given as goal

abbrev pub invariant-loop-number : goal.invariant-loop-number
invariant-loop-number l = OfMended l.scanned (λ P K. HasPlaces P K l.number l.index)

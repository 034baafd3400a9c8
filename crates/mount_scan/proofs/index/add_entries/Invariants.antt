use Rattle.layout.specs.Geometry.{data_pages_of}
use Rattle.mount_scan.specs.Building.{OfMended, Holds}
use Rattle.mount_scan.proofs.index.add_entries.Given as goal

abbrev pub invariant-loop-place : goal.invariant-loop-place
invariant-loop-place l = OfMended l.scanned (λ P K. Holds P K (data_pages_of P) l.names l.place l.index)

use Rattle.std.proofs.Common.{◌≡◌, ℕ, length, subst, arith}
use Rattle.layout.specs.Geometry.{data_pages_of}
use Rattle.mount_scan.specs.Building.{Holds}
use Rattle.mount_scan.proofs.Holding.{none_of}
use Rattle.mount_scan.proofs.index.add_entries.Goals as goal

pub loop-place-init : goal.loop-place-init
loop-place-init c = λ K mended.
    let P = c.args.scanned.now.image.geometry.pages in
    none_of P K (data_pages_of P) c.args.names.now c.args.index.now (c.requires.holds K mended)

pub returns : goal.returns
returns c = λ K mended.
    let P = c.args.scanned.now.image.geometry.pages in
    let all : c.loop-place.place ≡ length c.args.names.now = omega arith in
    subst (λ (n : ℕ). Holds P K (data_pages_of P) c.args.names.now n c.loop-place.index) all (c.loop-place.invariant K mended)

use Rattle.std.proofs.Common.{◌≡◌, ℕ, [], subst, arith}
use Rattle.layout.specs.Geometry.{data_pages_of}
use Rattle.mount_scan.specs.Building.{Holds}
use Rattle.mount_scan.proofs.Holding.{all_places_hold}
use Rattle.mount_scan.proofs.index.add_pages.Goals as goal

pub loop-page-init : goal.loop-page-init
loop-page-init c = λ K mended. all_places_hold c.args.scanned.now.image.geometry.pages K c.args.index.now (c.requires.places K mended)

pub returns : goal.returns
returns c = λ K mended.
    let P = c.args.scanned.now.image.geometry.pages in
    let all : c.loop-page.page ≡ data_pages_of P = omega arith in
    subst (λ (p : ℕ). Holds P K p [] 0 c.loop-page.index) all (c.loop-page.invariant K mended)

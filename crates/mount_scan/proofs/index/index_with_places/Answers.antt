use Rattle.std.proofs.Common.{◌≡◌, ℕ, subst, ◌∙◌, arith}
use Rattle.layout.specs.Geometry.{inodes_of}
use Rattle.mount_scan.specs.Building.{HasPlaces}
use Rattle.mount_scan.proofs.Carried.{some_mended}
use Rattle.mount_scan.proofs.Places.{no_places, places_added}
use Rattle.mount_scan.proofs.index.index_with_places.Goals as goal

pub loop-number-init : goal.loop-number-init
loop-number-init c = λ K mended.
    let geometry = c.args.scanned.now.image.geometry in
    no_places geometry.pages K c.in_ok-index.index (c.in_ok-index.ensures.inodes ∙ geometry.inodes_exact) (λ i. (c.in_ok-index.ensures.empty i).entries) (λ i. (c.in_ok-index.ensures.empty i).pages)

pub add_places-requires-clause-in_range : goal.add_places-requires-clause-in_range
add_places-requires-clause-in_range c =
    let image = c.args.scanned.now.image in
    let (K, mended) = some_mended image.geometry.pages image.words.now c.requires.coherent in
    let size = (c.loop-number.invariant K mended).each_inode in
    omega (arith, size, image.geometry.inodes_exact)

pub loop-number-preserved : goal.loop-number-preserved
loop-number-preserved c = λ K mended.
    let P = c.args.scanned.now.image.geometry.pages in
    places_added P K c.loop-number.number c.file_pages-count.result c.loop-number.index c.add_places.new.index (c.file_pages-count.ensures.file K mended) (c.file_pages-count.ensures.other K mended)
    c.add_places.ensures.elsewhere c.in_ok-add_places.ensures.places c.add_places.ensures.entries (c.loop-number.invariant K mended)

pub returns : goal.returns
returns c = λ K mended.
    let geometry = c.args.scanned.now.image.geometry in
    let all : c.loop-number.number ≡ inodes_of geometry.pages = omega (arith, geometry.inodes_exact) in
    subst (λ (n : ℕ). HasPlaces geometry.pages K n c.loop-number.index) all (c.loop-number.invariant K mended)

use Rattle.std.proofs.Common.{◌≤◌, arith, rules}
use Rattle.layout.specs.Geometry.{most_pages}
use Rattle.layout.proofs.GeometryLaws.{inodes_below}
use Rattle.image_reading.proofs.scan.Scan.new.Goals as goal

pub overflow_add-inodes : goal.overflow_add-inodes
overflow_add-inodes c =
    let g = c.args.geometry.now in
    let few = inodes_below g.pages g.volume_size in
    let small : g.inodes ≤ most_pages = omega (arith, few, g.inodes_exact, g.volume_size) in
    search (rules, small)

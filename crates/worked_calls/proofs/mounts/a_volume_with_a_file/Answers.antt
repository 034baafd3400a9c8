use Rattle.std.proofs.Common.{ap, arith}
use Rattle.layout.specs.Geometry.{inodes_of}
use Rattle.layout.proofs.GeometryLaws.{some_inodes}
use Rattle.volume.specs.Volume.{VolumeView}
use Rattle.worked_calls.proofs.mounts.a_volume_with_a_file.Goals as goal

pub count-requires-clause-in_range : goal.count-requires-clause-in_range
count-requires-clause-in_range g c =
    let geometry = c.volume.inside.geometry in
    let same = ap (λ (volume : VolumeView). inodes_of volume.size) c.volume.view_is in
    omega (arith, some_inodes geometry.pages geometry.volume_size, same, c.in_ok-volume.ensures.answers.stands.knows.nodes.each_inode)

pub nth-first-requires-clause-in_range : goal.nth-first-requires-clause-in_range
nth-first-requires-clause-in_range g c =
    let geometry = c.volume.inside.geometry in
    let same = ap (λ (volume : VolumeView). inodes_of volume.size) c.volume.view_is in
    omega (arith, some_inodes geometry.pages geometry.volume_size, same, c.in_ok-volume.ensures.answers.stands.knows.nodes.each_inode)

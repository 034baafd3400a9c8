use Rattle.std.proofs.Common.{sym}
use Rattle.image_reading.specs.Residue.{no_residue}
use Rattle.volume.proofs.Statuses.{node_reached_beside}
use Rattle.volume.proofs.volume.Volume.kind_of.Goals as goal

pub is_directory-requires-clause-reached : goal.is_directory-requires-clause-reached
is_directory-requires-clause-reached g c =
    let (state, stands, there) = c.requires.there in
    node_reached_beside c.args.self.now (g.P.Pm.view c.args.pm.now) state no_residue stands c.args.inode there

pub is_directory-requires-clause-stands : goal.is_directory-requires-clause-stands
is_directory-requires-clause-stands g c = let (state, stands) = c.requires.stands in (state, no_residue, stands)

pub returns-then-is_directory : goal.returns-then-is_directory
returns-then-is_directory g c = λ state stands. sym (c.if-is_directory.ensures state no_residue stands)

pub returns-else-is_directory : goal.returns-else-is_directory
returns-else-is_directory g c = λ state stands. sym (c.if-is_directory.ensures state no_residue stands)

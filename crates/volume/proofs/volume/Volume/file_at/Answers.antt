use Rattle.std.proofs.Common.{ℕ, List, sym, ap, ◌∙◌, arith}
use Rattle.std.proofs.lemmas.Result.{err_from_is_err_and}
use Rattle.layout.specs.Geometry.{inodes_of}
use Rattle.layout.specs.Fields.{inode_size}
use Rattle.volume.specs.Volume.{VolumeView}
use Rattle.volume.proofs.WalkedBeside.{reached_at, in_table}
use Rattle.volume.proofs.ContentRows.{named, file_is_directory, file_found, file_missing}
use Rattle.volume.proofs.volume.Volume.file_at.Goals as goal

pub is_directory-requires-clause-reached : goal.is_directory-requires-clause-reached
is_directory-requires-clause-reached g c =
    let (state, residue, stands) = c.requires.stands in
    let device = g.P.Pm.view c.args.pm.now in
    reached_at c.args.self.now device state residue c.args.path.now c.in_ok-inode.inode stands (named c.args.self.now device state residue stands c.args.path.now c.in_ok-inode.inode (c.in_ok-inode.ensures state residue stands))

pub returns-then-is_directory : goal.returns-then-is_directory
returns-then-is_directory g c = λ state residue stands.
    file_is_directory c.args.self.now (g.P.Pm.view c.args.pm.now) state residue stands c.args.path.now c.in_ok-inode.inode (c.in_ok-inode.ensures state residue stands) (sym (c.if-is_directory.ensures state residue stands))

pub inode_at-size-requires-clause-from_one : goal.inode_at-size-requires-clause-from_one
inode_at-size-requires-clause-from_one g c =
    let (state, residue, stands) = c.requires.stands in
    let device = g.P.Pm.view c.args.pm.now in
    let reached = reached_at c.args.self.now device state residue c.args.path.now c.in_ok-inode.inode stands (named c.args.self.now device state residue stands c.args.path.now c.in_ok-inode.inode (c.in_ok-inode.ensures state residue stands)) in
    (in_table c.args.self.now device c.in_ok-inode.inode c.requires.stands reached).0

pub inode_at-size-requires-clause-inode_in_range : goal.inode_at-size-requires-clause-inode_in_range
inode_at-size-requires-clause-inode_in_range g c =
    let (state, residue, stands) = c.requires.stands in
    let device = g.P.Pm.view c.args.pm.now in
    let reached = reached_at c.args.self.now device state residue c.args.path.now c.in_ok-inode.inode stands (named c.args.self.now device state residue stands c.args.path.now c.in_ok-inode.inode (c.in_ok-inode.ensures state residue stands)) in
    let most = (in_table c.args.self.now device c.in_ok-inode.inode c.requires.stands reached).1 in
    let same = ap (λ (volume : VolumeView). inodes_of volume.size) c.self.view_is in
    omega (arith, most, same, c.self.inside.geometry.inodes_exact)

pub returns : goal.returns
returns g c = λ state residue stands.
    let size = c.inode_at-size.ensures.size ∙ ap (λ (words : List ℕ). inode_size words c.in_ok-inode.inode) c.image.ensures in
    file_found c.args.self.now (g.P.Pm.view c.args.pm.now) state residue stands c.args.path.now c.in_ok-inode.inode (c.in_ok-inode.ensures state residue stands)
    c.inode_at-size.result.size (sym (c.if-is_directory.ensures state residue stands)) size

pub returns-in_err-inode : goal.returns-in_err-inode
returns-in_err-inode g c =
    let p = err_from_is_err_and c.from_residual.result c.from_residual.ensures.1 in
    rw (p.1, p.2) (λ state residue stands. file_missing c.args.self.now (g.P.Pm.view c.args.pm.now) state residue stands c.args.path.now _ (c.in_err-inode.ensures state residue stands))

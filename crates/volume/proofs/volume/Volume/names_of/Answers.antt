use Rattle.std.proofs.Common.{sym}
use Rattle.std.proofs.lemmas.Result.{err_from_is_err_and}
use Rattle.tree_model.proofs.WalkLaws.{id_at-from_walk}
use Rattle.image_counts.specs.Laws.{supply_beside}
use Rattle.volume.proofs.WalkedBeside.{stands_tree, reached_at}
use Rattle.volume.proofs.Readings.{listed_planned, listed_file, listed_fails}
use Rattle.volume.proofs.volume.Volume.names_of.Goals as goal

pub is_directory-requires-clause-reached : goal.is_directory-requires-clause-reached
is_directory-requires-clause-reached g c =
    let (state, residue, stands) = c.requires.stands in
    let tree = stands_tree c.args.self.now (g.P.Pm.view c.args.pm.now) state residue stands in
    reached_at c.args.self.now (g.P.Pm.view c.args.pm.now) state residue c.args.path.now c.in_ok-inode.inode stands
    (id_at-from_walk state.tree c.args.path.now _ tree (c.in_ok-inode.ensures state residue stands))

pub returns-then-not-is_directory : goal.returns-then-not-is_directory
returns-then-not-is_directory g c = λ state residue asked.
    listed_file c.args.self.now (g.P.Pm.view c.args.pm.now) state residue asked.stands c.args.path.now c.in_ok-inode.inode (c.in_ok-inode.ensures state residue asked.stands) (sym (c.if-not-is_directory.ensures state residue asked.stands))

pub returns : goal.returns
returns g c = rw c.of.ensures (λ state residue asked.
    listed_planned c.args.self.now (g.P.Pm.view c.args.pm.now) state residue asked.stands c.args.path.now c.in_ok-inode.inode (c.in_ok-inode.ensures state residue asked.stands) (sym (c.if-not-is_directory.ensures state residue asked.stands)))

pub returns-in_err-inode : goal.returns-in_err-inode
returns-in_err-inode g c =
    let p = err_from_is_err_and c.from_residual.result c.from_residual.ensures.1 in
    rw (p.1, p.2) (λ state residue asked. listed_fails (supply_beside c.args.self.now.size residue) state c.args.path.now _ (c.in_err-inode.ensures state residue asked.stands))

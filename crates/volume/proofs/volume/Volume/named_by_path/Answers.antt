use Rattle.std.proofs.lemmas.Result.{err_from_is_err_and}
use Rattle.volume.proofs.WalkedNames.{path_fails, path_named}
use Rattle.volume.proofs.volume.Volume.named_by_path.Goals as goal

pub returns-in_err-inode : goal.returns-in_err-inode
returns-in_err-inode g c =
    let p = err_from_is_err_and c.from_residual.result c.from_residual.ensures.1 in
    rw (p.1, p.2) (λ state residue stands. path_fails state.tree c.args.path.now _ (c.in_err-inode.ensures state residue stands))

pub returns : goal.returns
returns g c = λ state residue stands.
    path_named c.args.self.now (g.P.Pm.view c.args.pm.now) state residue stands c.args.path.now c.in_ok-inode.inode (c.in_ok-inode.ensures state residue stands)

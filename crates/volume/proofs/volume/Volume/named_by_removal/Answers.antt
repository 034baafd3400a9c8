use Rattle.std.proofs.lemmas.Result.{err_from_is_err_and}
use Rattle.volume.proofs.WalkedNames.{removal_named}
use Rattle.volume.proofs.volume.Volume.named_by_removal.Goals as goal

pub returns-in_err-named : goal.returns-in_err-named
returns-in_err-named g c =
    let p = err_from_is_err_and c.from_residual.result c.from_residual.ensures.1 in
    rw (p.1, p.2) (λ state residue stands. c.in_err-named.ensures.row state residue stands)

pub returns : goal.returns
returns g c = λ state residue stands.
    removal_named c.args.self.now (g.P.Pm.view c.args.pm.now) state residue stands c.args.path.now c.in_ok-named.named.directory c.in_ok-named.named.name c.in_ok-named.named.slot c.in_ok-named.named.inode
    (c.in_ok-named.ensures.row state residue stands) (c.in_ok-named.ensures.named state residue stands)

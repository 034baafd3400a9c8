use Rattle.std.proofs.Common.{◌∙◌}
use Rattle.std.proofs.lemmas.Result.{err_from_is_err_and}
use Rattle.volume.proofs.WalkedNames.{found_test, all_name, these_name}
use Rattle.volume.proofs.volume.Volume.names_inode.Goals as goal

pub returns-in_err-named : goal.returns-in_err-named
returns-in_err-named g c =
    let p = err_from_is_err_and c.from_residual.result c.from_residual.ensures.1 in
    rw (p.1, p.2) (λ state residue stands. c.in_err-named.ensures state residue stands)

pub returns-in-All : goal.returns-in-All
returns-in-All g c = λ state residue stands.
    all_name state.tree c.args.command.now c.in_ok-named.field-0 c.args.inode c.in-All.is (c.in_ok-named.ensures state residue stands)

pub returns-in-These : goal.returns-in-These
returns-in-These g c = λ state residue stands.
    these_name state.tree c.args.command.now c.in_ok-named.field-0 c.in-These.inodes c.args.inode c.contains.result c.in-These.is
    (c.contains.ensures.value ∙ found_test c.in-These.inodes c.args.inode) (c.in_ok-named.ensures state residue stands)

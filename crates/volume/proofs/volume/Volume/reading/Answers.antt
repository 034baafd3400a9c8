use Rattle.std.proofs.Common.{arith}
use Rattle.std.proofs.lemmas.Result.{err_from_is_err_and}
use Rattle.volume.proofs.ContentRows.{read_fails, read_too_big, read_planned}
use Rattle.volume.proofs.volume.Volume.reading.Goals as goal

pub returns-in_err-file : goal.returns-in_err-file
returns-in_err-file g c =
    let p = err_from_is_err_and c.from_residual.result c.from_residual.ensures.1 in
    rw (p.1, p.2) (λ state residue asked.
    read_fails c.args.self.now (g.P.Pm.view c.args.pm.now) state residue asked.stands c.args.path.now c.args.offset c.args.count c.in_err-file.field-0.0 (c.in_err-file.ensures state residue asked.stands))

pub returns-then-count-gt-LONGEST_READ : goal.returns-then-count-gt-LONGEST_READ
returns-then-count-gt-LONGEST_READ g c = λ state residue asked.
    read_too_big c.args.self.now (g.P.Pm.view c.args.pm.now) state residue asked.stands c.args.path.now c.in_ok-file.file.inode c.in_ok-file.file.size (c.in_ok-file.ensures state residue asked.stands)
    c.args.offset c.args.count (omega (arith, c.if-count-gt-LONGEST_READ.true))

pub returns : goal.returns
returns g c = rw c.of.ensures (λ state residue asked.
    read_planned c.args.self.now (g.P.Pm.view c.args.pm.now) state residue asked.stands c.args.path.now c.in_ok-file.file.inode c.in_ok-file.file.size (c.in_ok-file.ensures state residue asked.stands)
    c.args.offset c.args.count (omega (arith, c.if-count-gt-LONGEST_READ.false)))

use Rattle.std.proofs.Common.{List, ℕ, Ok, Err, None, sym, subst}
use Rattle.std.proofs.lemmas.Result.{err_from_is_err_and}
use Rattle.mount_scan.specs.Reports.{IsCheckOf, Reports}
use Rattle.mount_scan.proofs.Written.{reports, written_whole, written_front}
use Rattle.mount_scan.proofs.reporting.report.Goals as goal

pub returns-in_err-write_check-in-Sound-clause-written : goal.returns-in_err-write_check-in-Sound-clause-written
returns-in_err-write_check-in-Sound-clause-written g c = λ is.
    let W = (g.P.Pm.view c.args.pm.now).words in
    let p = err_from_is_err_and c.from_residual-in_err-write_check-in-Sound.result c.from_residual-in_err-write_check-in-Sound.ensures.1 in
    let check = subst (λ (words : List ℕ). IsCheckOf words (Ok c.in_ok-counts.field-0)) c.image.ensures c.in_ok-counts.ensures in
    subst (Reports W _ _ _ _) (sym p.1) (reports W _ _ _ _ c.in_ok-counts.field-0 c.in-Sound.counts c.in-Sound.is check (Err p.0) (written_front _ _ c.in_err-write_check-in-Sound.ensures))

pub returns-clause-written : goal.returns-clause-written
returns-clause-written g c = λ is.
    let W = (g.P.Pm.view c.args.pm.now).words in
    let check = subst (λ (words : List ℕ). IsCheckOf words (Ok c.in_ok-counts.field-0)) c.image.ensures c.in_ok-counts.ensures in
    reports W _ _ _ _ c.in_ok-counts.field-0 c.in-Sound.counts c.in-Sound.is check (Ok None) (written_whole _ _ c.in_ok-write_check-in-Sound.ensures)

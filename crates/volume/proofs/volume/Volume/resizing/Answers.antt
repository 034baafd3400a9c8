use Rattle.std.proofs.Common.{◌≡◌, inl, ◌-◌, arith}
use Rattle.std.proofs.lemmas.Result.{err_from_is_err_and}
use Rattle.layout.specs.Geometry.{pieces}
use Rattle.volume.proofs.ContentPlans.{few_pages}
use Rattle.volume.proofs.ContentRows.{differ_test, size_fits, truncate_fails, truncate_too_big, truncate_nothing, truncate_lacks, truncate_planned}
use Rattle.volume.proofs.volume.Volume.resizing.Goals as goal

pub returns-in_err-file : goal.returns-in_err-file
returns-in_err-file g c =
    let p = err_from_is_err_and c.from_residual.result c.from_residual.ensures.1 in
    rw (p.1, p.2) (λ state residue asked.
    inl (truncate_fails c.args.self.now (g.P.Pm.view c.args.pm.now) state residue asked.stands c.args.path.now c.args.size c.in_err-file.field-0.0 (c.in_err-file.ensures state residue asked.stands)))

pub returns-then-size-gt-LONGEST_FILE : goal.returns-then-size-gt-LONGEST_FILE
returns-then-size-gt-LONGEST_FILE g c = λ state residue asked.
    inl (truncate_too_big c.args.self.now (g.P.Pm.view c.args.pm.now) state residue asked.stands c.args.path.now c.in_ok-file.file.inode c.in_ok-file.file.size (c.in_ok-file.ensures state residue asked.stands)
    c.args.size (omega (arith, c.if-size-gt-LONGEST_FILE.true)))

pub returns-then-size-file : goal.returns-then-size-file
returns-then-size-file g c = λ state residue asked.
    truncate_nothing c.args.self.now (g.P.Pm.view c.args.pm.now) state residue asked.stands c.args.path.now c.in_ok-file.file.inode c.in_ok-file.file.size (c.in_ok-file.ensures state residue asked.stands)
    c.args.size (omega (arith, c.if-size-gt-LONGEST_FILE.false)) c.if-size-file.true

pub new_pages-requires-clause-few : goal.new_pages-requires-clause-few
new_pages-requires-clause-few g c =
    let (state, residue, stands) = c.requires.stands in
    few_pages c.args.self.now (g.P.Pm.view c.args.pm.now) state residue stands

pub new_pages-requires-clause-old : goal.new_pages-requires-clause-old
new_pages-requires-clause-old g c =
    let (state, residue, stands) = c.requires.stands in
    size_fits c.args.self.now (g.P.Pm.view c.args.pm.now) state residue stands c.args.path.now c.in_ok-file.file.inode c.in_ok-file.file.size (c.in_ok-file.ensures state residue stands)

pub returns-in_err-new_pages : goal.returns-in_err-new_pages
returns-in_err-new_pages g c =
    let p = err_from_is_err_and c.from_residual-in_err-new_pages.result c.from_residual-in_err-new_pages.ensures.1 in
    rw (p.1, p.2) (λ state residue asked.
    truncate_lacks c.args.self.now (g.P.Pm.view c.args.pm.now) state residue asked.stands c.args.path.now c.in_ok-file.file.inode c.in_ok-file.file.size (c.in_ok-file.ensures state residue asked.stands)
    c.args.size (omega (arith, c.if-size-gt-LONGEST_FILE.false)) c.in_err-new_pages.field-0.0 c.in_err-new_pages.ensures)

pub pages_for-requires : goal.pages_for-requires
pages_for-requires g c =
    let (state, residue, stands) = c.requires.stands in
    size_fits c.args.self.now (g.P.Pm.view c.args.pm.now) state residue stands c.args.path.now c.in_ok-file.file.inode c.in_ok-file.file.size (c.in_ok-file.ensures state residue stands)

pub returns : goal.returns
returns g c = λ state residue asked.
    let cut : c.saturating_sub-cut.result ≡ pieces c.in_ok-file.file.size 4096 - pieces c.args.size 4096 = omega (arith, c.saturating_sub-cut.ensures, c.pages_for.ensures, c.pages_for-2.ensures) in
    truncate_planned c.args.self.now (g.P.Pm.view c.args.pm.now) state residue asked.stands c.args.path.now c.in_ok-file.file.inode c.in_ok-file.file.size (c.in_ok-file.ensures state residue asked.stands)
    c.args.size (omega (arith, c.if-size-gt-LONGEST_FILE.false)) c.in_ok-new_pages.new_pages c.saturating_sub-cut.result (differ_test c.args.size c.in_ok-file.file.size c.if-size-file.false) cut
    c.in_ok-new_pages.ensures.0 c.in_ok-new_pages.ensures.1

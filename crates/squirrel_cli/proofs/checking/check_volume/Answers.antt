use Rattle.std.proofs.Common.{inl, inr, refl, ap, ◌∙◌}
use Rattle.std.specs.Prelude.{Ok, Err, Some}
use Rattle.squirrel_cli.specs.Seen.{seen_alone}
use Rattle.squirrel_cli.proofs.Checks.{checks_cut, checks_done, checks_refused}
use Rattle.squirrel_cli.proofs.Refusals.{told_as_refused, why_broken}
use Rattle.squirrel_cli.proofs.checking.check_volume.Goals as goal

pub returns-in-Ok-None-clause-checks : goal.returns-in-Ok-None-clause-checks
returns-in-Ok-None-clause-checks g c =
    let is = c.in-Ok-None.is ∙ ap Ok c.in-Ok-None.field-0-is in
    checks_done (seen_alone g.K.Sink (g.P.Pm.view c.args.pm.now) c.args.out.now) (seen_alone g.K.Sink (g.P.Pm.view c.args.pm.now) c.report.new.sink) refl refl is (c.report.ensures.written (inl is))

pub returns-in-Err-WriteFault-clause-checks : goal.returns-in-Err-WriteFault-clause-checks
returns-in-Err-WriteFault-clause-checks g c =
    let is = c.in-Err-WriteFault.is ∙ ap Err c.in-Err-WriteFault.field-0-is in
    checks_cut (seen_alone g.K.Sink (g.P.Pm.view c.args.pm.now) c.args.out.now) (seen_alone g.K.Sink (g.P.Pm.view c.args.pm.now) c.report.new.sink) refl refl is (c.report.ensures.written (inr is))

pub returns-in-Ok-Some-clause-checks : goal.returns-in-Ok-Some-clause-checks
returns-in-Ok-Some-clause-checks g c =
    let is = c.in-Ok-Some.is ∙ ap Ok (c.in-Ok-Some.field-0-is ∙ ap Some c.in-Ok-Some.violation-is) in
    let device = g.P.Pm.view c.args.pm.now in
    let why = why_broken device c.in-Ok-Some.violation (c.report.ensures.broken c.in-Ok-Some.violation is) in
    let same = ap g.K.Sink.took (c.report.ensures.unwritten (inl (c.in-Ok-Some.violation, is))) in
    let told = told_as_refused c.refuse.result (g.K.Sink.took c.refuse.new.out) c.refusal_of.ensures same c.refuse.ensures.told in
    checks_refused (seen_alone g.K.Sink device c.args.out.now) (seen_alone g.K.Sink device c.refuse.new.out) refl refl c.in-Ok-Some.violation why told

use Rattle.std.proofs.Common.{refl}
use Rattle.squirrel_cli.specs.WorkSteps.{WorksOn}
use Rattle.squirrel_cli.specs.Works.{HasWorked}
use Rattle.squirrel_cli.specs.Seen.{seen_alone}
use Rattle.squirrel_cli.proofs.Mounted.{cause_entry, goes_on, mounted_row, settled_entry}
use Rattle.squirrel_cli.proofs.Refusals.{refused_cause, refused_row, refused_settled}
use Rattle.squirrel_cli.proofs.Works.{works_entry}
use Rattle.squirrel_cli.proofs.working.work_volume.Goals as goal

pub work_lines-requires : goal.work_lines-requires
work_lines-requires g c = record { goes_on = goes_on c.in-Ok.ensures.answers c.requires.start }

pub returns-in-Ok-clause-works : goal.returns-in-Ok-clause-works
returns-in-Ok-clause-works g c =
    let mount = c.in-Ok.ensures.answers in
    let old = seen_alone g.K.Sink (g.P.Pm.view c.args.pm.now) c.args.out.now in
    let new = seen_alone g.K.Sink (g.P.Pm.view c.work_lines.new.pm) c.work_lines.new.out in
    mounted_row old new mount (WorksOn c.in-Ok.volume.size c.args.generated.seed c.args.generated.count) (HasWorked c.args.generated.seed c.args.generated.count) c.work_lines.result c.work_lines.ensures.leaves c.work_lines.ensures.works (λ runs. works_entry c.args.generated.seed c.args.generated.count old new mount runs)

pub returns-in-Ok-clause-cause : goal.returns-in-Ok-clause-cause
returns-in-Ok-clause-cause g c =
    cause_entry (seen_alone g.K.Sink (g.P.Pm.view c.args.pm.now) c.args.out.now)
    (seen_alone g.K.Sink (g.P.Pm.view c.work_lines.new.pm) c.work_lines.new.out) c.in-Ok.ensures.answers c.work_lines.ensures.cause

pub returns-in-Ok-clause-settled : goal.returns-in-Ok-clause-settled
returns-in-Ok-clause-settled g c =
    settled_entry (seen_alone g.K.Sink (g.P.Pm.view c.args.pm.now) c.args.out.now)
    (seen_alone g.K.Sink (g.P.Pm.view c.work_lines.new.pm) c.work_lines.new.out) c.in-Ok.ensures.answers c.work_lines.ensures.leaves

pub returns-in-Err-clause-works : goal.returns-in-Err-clause-works
returns-in-Err-clause-works g c =
    refused_row (seen_alone g.K.Sink (g.P.Pm.view c.args.pm.now) c.args.out.now)
    (seen_alone g.K.Sink (g.P.Pm.view c.mount.new.pm) c.refuse.new.out) (HasWorked c.args.generated.seed c.args.generated.count) c.in-Err.error c.in-Err.ensures.answers c.refuse.ensures.told refl c.refuse.ensures.unwritten

pub returns-in-Err-clause-cause : goal.returns-in-Err-clause-cause
returns-in-Err-clause-cause g c =
    refused_cause (seen_alone g.K.Sink (g.P.Pm.view c.args.pm.now) c.args.out.now)
    (seen_alone g.K.Sink (g.P.Pm.view c.mount.new.pm) c.refuse.new.out) c.in-Err.error c.in-Err.ensures.answers c.refuse.ensures.told c.refuse.ensures.cause refl

pub returns-in-Err-clause-settled : goal.returns-in-Err-clause-settled
returns-in-Err-clause-settled g c = refused_settled (g.P.Pm.view c.args.pm.now) (g.P.Pm.view c.mount.new.pm) c.in-Err.error c.in-Err.ensures.answers c.requires.start.settled

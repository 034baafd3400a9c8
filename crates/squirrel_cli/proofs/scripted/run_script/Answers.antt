use Rattle.std.proofs.Common.{refl}
use Rattle.squirrel_cli.specs.GoingOn.{RunsAndCloses}
use Rattle.squirrel_cli.specs.Mounts.{HasRun}
use Rattle.squirrel_cli.specs.Seen.{seen}
use Rattle.squirrel_cli.proofs.Closing.{closes_entry}
use Rattle.squirrel_cli.proofs.Mounted.{cause_entry, goes_on, mounted_row, settled_entry}
use Rattle.squirrel_cli.proofs.Refusals.{refused_cause, refused_row, refused_settled}
use Rattle.squirrel_cli.proofs.scripted.run_script.Goals as goal

pub run_lines-requires : goal.run_lines-requires
run_lines-requires g c = record { goes_on = goes_on c.in-Ok.ensures.answers c.requires.start }

pub returns-in-Ok-clause-runs : goal.returns-in-Ok-clause-runs
returns-in-Ok-clause-runs g c =
    let mount = c.in-Ok.ensures.answers in
    let old = seen g.S.Source g.K.Sink (g.P.Pm.view c.args.pm.now) c.args.script.now c.args.out.now in
    let new = seen g.S.Source g.K.Sink (g.P.Pm.view c.run_lines.new.pm) c.run_lines.new.script c.run_lines.new.out in
    mounted_row old new mount (RunsAndCloses c.in-Ok.volume.size) HasRun c.run_lines.result c.run_lines.ensures.leaves c.run_lines.ensures.runs (λ runs. closes_entry old new mount runs)

pub returns-in-Ok-clause-cause : goal.returns-in-Ok-clause-cause
returns-in-Ok-clause-cause g c =
    cause_entry (seen g.S.Source g.K.Sink (g.P.Pm.view c.args.pm.now) c.args.script.now c.args.out.now)
    (seen g.S.Source g.K.Sink (g.P.Pm.view c.run_lines.new.pm) c.run_lines.new.script c.run_lines.new.out) c.in-Ok.ensures.answers c.run_lines.ensures.cause

pub returns-in-Ok-clause-settled : goal.returns-in-Ok-clause-settled
returns-in-Ok-clause-settled g c =
    settled_entry (seen g.S.Source g.K.Sink (g.P.Pm.view c.args.pm.now) c.args.script.now c.args.out.now)
    (seen g.S.Source g.K.Sink (g.P.Pm.view c.run_lines.new.pm) c.run_lines.new.script c.run_lines.new.out) c.in-Ok.ensures.answers c.run_lines.ensures.leaves

pub returns-in-Err-clause-runs : goal.returns-in-Err-clause-runs
returns-in-Err-clause-runs g c =
    refused_row (seen g.S.Source g.K.Sink (g.P.Pm.view c.args.pm.now) c.args.script.now c.args.out.now)
    (seen g.S.Source g.K.Sink (g.P.Pm.view c.mount.new.pm) c.args.script.now c.refuse.new.out) HasRun c.in-Err.error c.in-Err.ensures.answers c.refuse.ensures.told refl c.refuse.ensures.unwritten

pub returns-in-Err-clause-cause : goal.returns-in-Err-clause-cause
returns-in-Err-clause-cause g c =
    refused_cause (seen g.S.Source g.K.Sink (g.P.Pm.view c.args.pm.now) c.args.script.now c.args.out.now)
    (seen g.S.Source g.K.Sink (g.P.Pm.view c.mount.new.pm) c.args.script.now c.refuse.new.out) c.in-Err.error c.in-Err.ensures.answers c.refuse.ensures.told c.refuse.ensures.cause refl

pub returns-in-Err-clause-settled : goal.returns-in-Err-clause-settled
returns-in-Err-clause-settled g c = refused_settled (g.P.Pm.view c.args.pm.now) (g.P.Pm.view c.mount.new.pm) c.in-Err.error c.in-Err.ensures.answers c.requires.start.settled

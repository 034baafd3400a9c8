use Rattle.std.proofs.Common.{refl}
use Rattle.squirrel_cli.specs.Seen.{seen}
use Rattle.squirrel_cli.specs.Weaves.{WeavesScript}
use Rattle.squirrel_cli.proofs.Mounted.{cause_entry}
use Rattle.squirrel_cli.proofs.Refusals.{refused_row}
use Rattle.squirrel_cli.proofs.WovenRows.{uncut_row, woven_row}
use Rattle.squirrel_cli.proofs.weaving.weave_script.Goals as goal

pub returns-in-Ok-clause-weaves : goal.returns-in-Ok-clause-weaves
returns-in-Ok-clause-weaves g c =
    let mount = c.in-Ok.ensures.answers in
    woven_row c.args.chosen.sessions c.args.chosen.schedule.now (seen g.S.Source g.K.Sink (g.P.Pm.view c.args.pm.now) c.args.script.now c.args.out.now)
    (seen g.S.Source g.K.Sink (g.P.Pm.view c.weave_lines.new.pm) c.weave_lines.new.script c.weave_lines.new.out) c.weave_lines.result mount c.weave_lines.ensures.leaves
    (c.weave_lines.ensures.weaves mount.only.start mount.stands)

pub returns-in-Ok-clause-cause : goal.returns-in-Ok-clause-cause
returns-in-Ok-clause-cause g c =
    cause_entry (seen g.S.Source g.K.Sink (g.P.Pm.view c.args.pm.now) c.args.script.now c.args.out.now)
    (seen g.S.Source g.K.Sink (g.P.Pm.view c.weave_lines.new.pm) c.weave_lines.new.script c.weave_lines.new.out) c.in-Ok.ensures.answers c.weave_lines.ensures.cause

pub returns-in-Err-clause-weaves : goal.returns-in-Err-clause-weaves
returns-in-Err-clause-weaves g c =
    let old = seen g.S.Source g.K.Sink (g.P.Pm.view c.args.pm.now) c.args.script.now c.args.out.now in
    let new = seen g.S.Source g.K.Sink (g.P.Pm.view c.mount.new.pm) c.args.script.now c.refuse.new.out in
    uncut_row old new (WeavesScript c.args.chosen.sessions c.args.chosen.schedule.now)
    (refused_row old new (WeavesScript c.args.chosen.sessions c.args.chosen.schedule.now) c.in-Err.error c.in-Err.ensures.answers c.refuse.ensures.told refl c.refuse.ensures.unwritten)

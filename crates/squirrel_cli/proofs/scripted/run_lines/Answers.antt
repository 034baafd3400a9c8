use Rattle.std.proofs.Common.{inr}
use Rattle.squirrel_cli.specs.Seen.{seen}
use Rattle.squirrel_cli.proofs.Answered.{answered_cause, answered_closes, answered_going, answered_left, answered_stands, closed_cause, closed_going}
use Rattle.squirrel_cli.proofs.scripted.run_lines.Goals as goal

pub close_session-requires-clause-stands : goal.close_session-requires-clause-stands
close_session-requires-clause-stands g c =
    answered_stands (seen g.S.Source g.K.Sink (g.P.Pm.view c.args.pm.now) c.args.script.now c.args.out.now)
    (seen g.S.Source g.K.Sink (g.P.Pm.view c.answer_lines.new.pm) c.answer_lines.new.script c.answer_lines.new.out) c.in-Ok.ensures.runs c.in-Done.is

pub returns-in-Done-clause-runs : goal.returns-in-Done-clause-runs
returns-in-Done-clause-runs g c =
    inr (answered_closes (seen g.S.Source g.K.Sink (g.P.Pm.view c.args.pm.now) c.args.script.now c.args.out.now)
    (seen g.S.Source g.K.Sink (g.P.Pm.view c.answer_lines.new.pm) c.answer_lines.new.script c.answer_lines.new.out) c.in-Ok.ensures.runs c.in-Done.is
    (g.P.Pm.view c.close_session.new.pm) c.close_session.result c.close_session.ensures)

pub returns-in-Done-clause-cause : goal.returns-in-Done-clause-cause
returns-in-Done-clause-cause g c =
    closed_cause (seen g.S.Source g.K.Sink (g.P.Pm.view c.args.pm.now) c.args.script.now c.args.out.now)
    (seen g.S.Source g.K.Sink (g.P.Pm.view c.answer_lines.new.pm) c.answer_lines.new.script c.answer_lines.new.out) c.in-Ok.ensures.runs c.in-Done.is
    (g.P.Pm.view c.close_session.new.pm) c.close_session.result c.close_session.ensures

pub returns-in-Done-clause-leaves : goal.returns-in-Done-clause-leaves
returns-in-Done-clause-leaves g c =
    closed_going (seen g.S.Source g.K.Sink (g.P.Pm.view c.args.pm.now) c.args.script.now c.args.out.now)
    (seen g.S.Source g.K.Sink (g.P.Pm.view c.answer_lines.new.pm) c.answer_lines.new.script c.answer_lines.new.out) c.in-Ok.ensures.runs c.in-Done.is
    (g.P.Pm.view c.close_session.new.pm) c.close_session.result c.close_session.ensures

pub returns-in_default-end-clause-runs : goal.returns-in_default-end-clause-runs
returns-in_default-end-clause-runs g c =
    inr (answered_left (seen g.S.Source g.K.Sink (g.P.Pm.view c.args.pm.now) c.args.script.now c.args.out.now)
    (seen g.S.Source g.K.Sink (g.P.Pm.view c.answer_lines.new.pm) c.answer_lines.new.script c.answer_lines.new.out) c.in-Ok.ensures.runs c.status_of_end.result c.status_of_end.ensures c.in_default-end.not-Done)

pub returns-in_default-end-clause-cause : goal.returns-in_default-end-clause-cause
returns-in_default-end-clause-cause g c =
    answered_cause (seen g.S.Source g.K.Sink (g.P.Pm.view c.args.pm.now) c.args.script.now c.args.out.now)
    (seen g.S.Source g.K.Sink (g.P.Pm.view c.answer_lines.new.pm) c.answer_lines.new.script c.answer_lines.new.out) c.in-Ok.ensures.runs c.status_of_end.result c.status_of_end.ensures

pub returns-in_default-end-clause-leaves : goal.returns-in_default-end-clause-leaves
returns-in_default-end-clause-leaves g c =
    answered_going (seen g.S.Source g.K.Sink (g.P.Pm.view c.args.pm.now) c.args.script.now c.args.out.now)
    (seen g.S.Source g.K.Sink (g.P.Pm.view c.answer_lines.new.pm) c.answer_lines.new.script c.answer_lines.new.out) c.in-Ok.ensures.runs

use Rattle.sessions.proofs.EndStands.{ended_stands}
use Rattle.squirrel_cli.proofs.Closing.{closes_err, closes_ok}
use Rattle.squirrel_cli.proofs.weaving.close_sessions.Goals as goal

pub returns-in-Ok : goal.returns-in-Ok
returns-in-Ok g c = λ history ended.
    closes_ok c.args.interleave.volume history (g.P.Pm.view c.args.pm.now) (g.P.Pm.view c.close.new.pm) c.close.result (ended_stands c.args.interleave (g.P.Pm.view c.args.pm.now) history ended)
    (c.close.ensures history ended) c.in-Ok.is

pub returns-in-Err : goal.returns-in-Err
returns-in-Err g c = λ history ended.
    closes_err c.args.interleave.volume history (g.P.Pm.view c.args.pm.now) (g.P.Pm.view c.close.new.pm) c.close.result (ended_stands c.args.interleave (g.P.Pm.view c.args.pm.now) history ended)
    (c.close.ensures history ended) c.in-Err.is

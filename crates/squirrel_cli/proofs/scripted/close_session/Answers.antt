use Rattle.squirrel_cli.proofs.Closing.{closes_err, closes_ok}
use Rattle.squirrel_cli.proofs.scripted.close_session.Goals as goal

pub returns-in-Ok : goal.returns-in-Ok
returns-in-Ok g c = λ state stands. closes_ok c.args.session.volume state (g.P.Pm.view c.args.pm.now) (g.P.Pm.view c.close.new.pm) c.close.result stands (c.close.ensures state stands) c.in-Ok.is

pub returns-in-Err : goal.returns-in-Err
returns-in-Err g c = λ state stands. closes_err c.args.session.volume state (g.P.Pm.view c.args.pm.now) (g.P.Pm.view c.close.new.pm) c.close.result stands (c.close.ensures state stands) c.in-Err.is

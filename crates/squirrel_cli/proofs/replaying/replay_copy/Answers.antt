use Rattle.std.proofs.Common.{refl, subst}
use Rattle.pm_memory.specs.Fresh.{IsNew}
use Rattle.squirrel_cli.specs.Seen.{seen}
use Rattle.squirrel_cli.proofs.ReplayRuns.{crashes_copy}
use Rattle.squirrel_cli.proofs.replaying.replay_copy.Goals as goal

pub returns-clause-crashes : goal.returns-clause-crashes
returns-clause-crashes g c =
    crashes_copy c.args.crash.now.moment c.args.crash.now.keep.now (seen g.S.Source g.K.Sink (g.P.Pm.view c.args.pm.now) c.args.source.now c.args.sink.now)
    (seen g.S.Source g.K.Sink (g.P.Pm.view c.args.pm.now) c.replay_on.new.source c.replay_on.new.sink) _ _ refl (subst (IsNew _) c.image.ensures c.in-Ok.ensures) c.replay_on.ensures.cause refl c.replay_on.ensures.replays

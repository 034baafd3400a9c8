use Rattle.std.proofs.Common.{sym, ap, subst}
use Rattle.volume.specs.Volume.{VolumeView}
use Rattle.volume.specs.Stands.{StandsFor}
use Rattle.engine.specs.Session.{SessionView}
use Rattle.engine.proofs.session.Session.close.Goals as goal

pub close-requires-clause-stands : goal.close-requires-clause-stands
close-requires-clause-stands g c =
    let volume = ap (λ (v : SessionView). v.volume) c.self.view_is in
    let (state, stands) = c.requires.stands in
    (state, subst (λ (v : VolumeView). StandsFor v (g.P.Pm.view c.args.pm.now) state) (sym volume) stands)

use Rattle.std.proofs.Common.{sym, ap, subst}
use Rattle.volume.specs.Volume.{VolumeView}
use Rattle.volume.specs.Stands.{IsStanding}
use Rattle.engine.specs.Session.{SessionView}
use Rattle.engine.proofs.session.Session.listing.Goals as goal

pub write_tree-requires-clause-stands : goal.write_tree-requires-clause-stands
write_tree-requires-clause-stands g c =
    let volume = ap (λ (v : SessionView). v.volume) c.self.view_is in
    subst (λ (v : VolumeView). IsStanding v (g.P.Pm.view c.args.pm.now)) (sym volume) c.requires.stands

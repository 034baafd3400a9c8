use Rattle.std.proofs.Common.{sym, ap, subst}
use Rattle.volume.specs.Volume.{VolumeView}
use Rattle.volume.specs.Stands.{IsStanding}
use Rattle.sessions.specs.Interleave.{InterleaveView}
use Rattle.sessions.proofs.interleave.Interleave.unmark.Goals as goal

pub unmark-requires-clause-stands : goal.unmark-requires-clause-stands
unmark-requires-clause-stands g c =
    let volume = ap (λ (v : InterleaveView). v.volume) c.self.view_is in
    subst (λ (v : VolumeView). IsStanding v (g.P.Pm.view c.args.pm.now)) (sym volume) c.requires.stands

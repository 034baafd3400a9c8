use Rattle.std.proofs.Common.{sym, ap, subst}
use Rattle.mark_ops.specs.Marking.{Closes}
use Rattle.volume.specs.Volume.{VolumeView}
use Rattle.volume.specs.Stands.{StandsFor}
use Rattle.sessions.specs.Interleave.{InterleaveView}
use Rattle.sessions.proofs.EndStands.{ended_stands}
use Rattle.sessions.proofs.interleave.Interleave.close.Goals as goal

pub close-requires-clause-stands : goal.close-requires-clause-stands
close-requires-clause-stands g c =
    let volume = ap (λ (v : InterleaveView). v.volume) c.self.view_is in
    let (history, ended) = c.requires.ended in
    (history, subst (λ (v : VolumeView). StandsFor v (g.P.Pm.view c.args.pm.now) history) (sym volume) (ended_stands c.args.self (g.P.Pm.view c.args.pm.now) history ended))

pub returns : goal.returns
returns g c = λ history ended.
    let volume = ap (λ (v : InterleaveView). v.volume) c.self.view_is in
    subst (λ (v : VolumeView). Closes v.marked v.size history (g.P.Pm.view c.args.pm.now) (g.P.Pm.view c.close.new.pm) c.close.result) volume
    (c.close.ensures.closes history (subst (λ (v : VolumeView). StandsFor v (g.P.Pm.view c.args.pm.now) history) (sym volume) (ended_stands c.args.self (g.P.Pm.view c.args.pm.now) history ended)))

use Rattle.std.proofs.Common.{sym, ap, subst, ◌∙◌}
use Rattle.unlink_ops.specs.declared.link.Stage.{Stage}
use Rattle.unlink_ops.specs.LinkStages.{RunningView, StandsStage}
use Rattle.unlink_ops.proofs.LinkStands.{page_stands}
use Rattle.unlink_ops.proofs.link.Running.step.Goals as goal

pub claim-requires-clause-stands : goal.claim-requires-clause-stands
claim-requires-clause-stands g c =
    let link = c.self.inside.link in
    let file = c.in-Written.field-0 in
    let volume = c.args.volume.now in
    let device = g.P.Pm.view c.args.pm.now in
    let is = sym c.self.view_is ∙ ap (λ (stage : Stage). record { link = link; stage = stage }) (sym c.in-Written.ensures.value) in
    page_stands link file volume device (subst (λ (running : RunningView). StandsStage volume device running) is c.requires.stands) c.in-Page.page c.in-Page.is

use Rattle.std.proofs.Common.{◌∙◌, ap}
use Rattle.fence_token.proofs.ObjectLaws.{stands_clean_by_token}
use Rattle.dentry_state.specs.Dentry.{DentryView}
use Rattle.dentry_state.proofs.Stored.{clean_as}
use Rattle.dentry_state.proofs.dentry.DentryH+InFlight+S.settle.Goals as goal

pub returns-clause-clean : goal.returns-clause-clean
returns-clause-clean g c =
    let old = c.self.view_is in
    let new = c.of.ensures in
    clean_as c.args.self.pages c.of.result.pages c.args.self.slot c.of.result.slot c.args.self.fields c.of.result.fields
    (ap (λ (dentry : DentryView). dentry.pages) new ∙ ap (λ (dentry : DentryView). dentry.pages) old)
    (ap (λ (dentry : DentryView). dentry.slot) new ∙ ap (λ (dentry : DentryView). dentry.slot) old)
    (ap (λ (dentry : DentryView). dentry.fields) new ∙ ap (λ (dentry : DentryView). dentry.fields) old)
    (stands_clean_by_token (g.P.Pm.view c.args.pm.now).trail (g.met.P.Pm.honest c.args.pm.now) c.requires.in_flight c.requires.settles)

use Rattle.std.proofs.Common.{sym, subst}
use Rattle.fence_token.proofs.ObjectLaws.{stands_clean_by_token}
use Rattle.page_state.specs.Page.{PageView, PageIsClean}
use Rattle.page_state.proofs.page.PageH+InFlight+S.settle.Goals as goal

pub returns-clause-clean : goal.returns-clause-clean
returns-clause-clean g c =
    let device = g.P.Pm.view c.args.pm.now in
    let clean = stands_clean_by_token device.trail (g.met.P.Pm.honest c.args.pm.now) c.requires.in_flight c.requires.settles in
    subst (λ (view : PageView). PageIsClean view device) (sym c.of.ensures)
    (subst (λ (view : PageView). PageIsClean view device) (sym c.self.view_is) clean)

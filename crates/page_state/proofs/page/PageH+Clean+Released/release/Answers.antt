use Rattle.std.proofs.Common.{sym, subst}
use Rattle.std.specs.Prelude.{None}
use Rattle.page_state.specs.Page.{PageView, PageIsClean, PageIsDirty}
use Rattle.page_state.proofs.Releases.{free_mean, released_dirty}
use Rattle.page_state.proofs.page.PageH+Clean+Released.release.Goals as goal

pub release_pages-requires-clause-inside : goal.release_pages-requires-clause-inside
release_pages-requires-clause-inside g c =
    let clean = subst (λ (view : PageView). PageIsClean view (g.P.Pm.view c.args.pm.now)) (sym c.self.view_is) c.requires.clean in
    clean.stands.inside

pub of-requires-clause-reads : goal.of-requires-clause-reads
of-requires-clause-reads g c = free_mean c.self.inside.pages.now

pub returns-clause-dirty : goal.returns-clause-dirty
returns-clause-dirty g c =
    let inside = c.self.inside in
    let clean = subst (λ (view : PageView). PageIsClean view (g.P.Pm.view c.args.pm.now)) (sym c.self.view_is) c.requires.clean in
    subst (λ (view : PageView). PageIsDirty view (g.P.Pm.view c.release_pages.new.pm)) (sym c.of.ensures)
    (released_dirty inside.geometry.pages inside.pages.now inside.fields inside.touched inside.ticket None c.self.invariant.1 clean c.release_pages.ensures.device c.release_pages.ensures.released)

use Rattle.std.proofs.Common.{sym, subst}
use Rattle.std.specs.Prelude.{None}
use Rattle.layout.specs.Geometry.{IsVolumeSize}
use Rattle.page_state.specs.Page.{PageView, fields_of_page, PageIsClean, PageIsDirty}
use Rattle.page_state.proofs.Changes.{claimed_dirty}
use Rattle.page_state.proofs.page.PageH+Clean+S.store_owner.Goals as goal

pub claim_pages-requires-clause-inside : goal.claim_pages-requires-clause-inside
claim_pages-requires-clause-inside g c =
    let clean = subst (λ (view : PageView). PageIsClean view (g.P.Pm.view c.args.pm.now)) (sym c.self.view_is) c.requires.clean in
    clean.stands.inside

pub of-requires-clause-reads : goal.of-requires-clause-reads
of-requires-clause-reads g c = record { each = λ index inside. c.requires.means (fields_of_page c.self.inside.fields index) (c.self.invariant.1.each index inside) }

pub returns-clause-volume : goal.returns-clause-volume
returns-clause-volume g c = subst (λ (view : PageView). IsVolumeSize view.volume_pages) c.self.view_is c.self.inside.geometry.volume_size

pub returns-clause-dirty : goal.returns-clause-dirty
returns-clause-dirty g c =
    let inside = c.self.inside in
    let clean = subst (λ (view : PageView). PageIsClean view (g.P.Pm.view c.args.pm.now)) (sym c.self.view_is) c.requires.clean in
    subst (λ (view : PageView). PageIsDirty view (g.P.Pm.view c.claim_pages.new.pm)) (sym c.of.ensures)
    (claimed_dirty inside.geometry.pages inside.pages.now inside.fields inside.touched inside.ticket None c.args.owner clean c.claim_pages.ensures.device c.claim_pages.ensures.owner)

use Rattle.std.proofs.Common.{ℕ, subst}
use Rattle.layout.specs.Geometry.{data_pages_of}
use Rattle.page_state.specs.Page.{PageView, AreDataPages}
use Rattle.page_state.proofs.page.PageH.pages.Goals as goal

pub returns-clause-data_pages : goal.returns-clause-data_pages
returns-clause-data_pages g c =
    let inside = c.self.inside in
    subst (λ (view : PageView). AreDataPages (data_pages_of view.volume_pages) view.pages) c.self.view_is
    (subst (λ (d : ℕ). AreDataPages d inside.pages.now) inside.geometry.data_pages_exact c.self.invariant.0)

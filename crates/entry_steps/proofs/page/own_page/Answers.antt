use Rattle.std.proofs.Common.{◌≡◌, ℕ, List, [], ◌∷◌, length, slice_index, refl, ap, subst, ◌∙◌}
use Rattle.pm_trait.proofs.DeviceViewLaws.{stores_flushed}
use Rattle.pm_trait.proofs.Unfolding.{interval_ends}
use Rattle.layout.specs.Fields.{page_owner}
use Rattle.page_state.specs.Page.{PageView, EachPage, touched_lines}
use Rattle.page_state.proofs.Changes.{dirty_owners}
use Rattle.image_laws.specs.Create.{owned}
use Rattle.entry_steps.proofs.Pages.{page_settled, owner_inside, page_owned, claim_flushed, claim_stores, page_flushes}
use Rattle.entry_steps.proofs.page.own_page.Goals as goal

pub at-filled-requires-clause-settled : goal.at-filled-requires-clause-settled
at-filled-requires-clause-settled g c =
    let geometry = c.args.geometry.now in
    page_settled geometry.pages (c.args.page ∷ []) (g.P.Pm.view c.args.pm.now).words (g.P.Pm.view c.args.pm.now).trail geometry.volume_size refl c.requires.ready.in_range c.requires.begins.whole c.requires.begins.settled

pub returns : goal.returns
returns g c =
    let P = c.args.geometry.now.pages in
    let old = (g.P.Pm.view c.args.pm.now).words in
    let new = (g.P.Pm.view c.end_interval.new.pm).words in
    let directory = c.args.directory in
    let page = c.at-filled in
    let dirty = c.claim-dirty in
    let page_volume = ap (λ (view : PageView). view.volume_pages) page.ensures.object in
    let page_list = ap (λ (view : PageView). view.pages) page.ensures.object in
    let volume = ap (λ (view : PageView). view.volume_pages) dirty.ensures.object in
    let pages = ap (λ (view : PageView). view.pages) dirty.ensures.object in
    let lines = ap (λ (view : PageView). touched_lines view.touched 1) dirty.ensures.object in
    let one = ap length page_list in
    let stores = claim_stores page.result.volume_pages page.result.pages directory one dirty.ensures.device in
    let flushes = page_flushes dirty.result.volume_pages dirty.result.pages dirty.result.touched 1 lines (ap length pages ∙ one) c.flush-claimed.ensures.device in
    let owner = subst (λ (view : PageView). EachPage view.pages (λ page. page_owner view.volume_pages (g.P.Pm.view dirty.new.pm).words page ≡ directory)) dirty.ensures.object
    (dirty_owners dirty.result directory (ap (λ (view : PageView). view.fields.owner) dirty.ensures.object) dirty.ensures.dirty) in
    record {
      takes = record {
        makes = page_owned page.result.volume_pages page.result.pages directory (c.end_interval.ensures.device.words ∙ c.flush-claimed.ensures.device.words) one
            (owner_inside page.result.volume_pages page.result.pages old one page.ensures.clean.stands.inside) owner dirty.ensures.device.interval
            ∙ ap (λ (v : ℕ). owned v old (slice_index page.result.pages 0) directory) page_volume ∙ ap (λ (l : List ℕ). owned P old (slice_index l 0) directory) page_list;
        fenced = interval_ends c.end_interval.result c.requires.begins.settled (stores_flushed stores flushes)
            (claim_flushed page.result.volume_pages dirty.result.volume_pages page.result.pages dirty.result.pages volume pages one c.flush-claimed.ensures.flushed)
            c.end_interval.ensures.device;
      };
    }

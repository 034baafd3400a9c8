use Rattle.std.proofs.Common.{ℕ, ◌+◌, ◌*◌, ◌<◌, length, slice_index, subst, arith}
use Rattle.pm_trait.proofs.DeviceLaws.{interval_length}
use Rattle.page_state.specs.Page.{AreDataPages, IsFilledWord, IsSlotPage}
use Rattle.page_state.specs.Events.{fill_of_page}
use Rattle.page_state.proofs.Contents.{slot_page_stays, filled_is_own}
use Rattle.page_state.proofs.Told.{no_pages, pages_more, pages_done}
use Rattle.page_state.proofs.Pages.{earlier_kept, each_more}
use Rattle.page_state.proofs.words.fill_pages.Goals as goal

pub loop-page-init : goal.loop-page-init
loop-page-init g c = record {
  device = no_pages (IsFilledWord c.args.geometry.now.pages) (fill_of_page c.args.geometry.now.pages c.args.first.now) c.args.pages.now (g.P.Pm.view c.args.pm.now);
  filled = λ index below. absurd (omega (arith, below));
}

pub fill_page-requires-clause-inside : goal.fill_page-requires-clause-inside
fill_page-requires-clause-inside g c = λ word own.
    let before = c.requires.inside word (record { index = c.loop-page.page-index; before = omega arith; is = own }) in
    omega (arith, before, interval_length c.loop-page.invariant.device.interval)

pub loop-page-preserved : goal.loop-page-preserved
loop-page-preserved g c =
    let so_far = c.loop-page.invariant in
    let geometry = c.args.geometry.now in
    let volume_pages = geometry.pages in
    let pages = c.args.pages.now in
    let index = c.loop-page.page-index in
    let old = (g.P.Pm.view c.loop-page.pm).words in
    let new = (g.P.Pm.view c.fill_page.new.pm).words in
    let valid = subst (λ (d : ℕ). AreDataPages d pages) geometry.data_pages_exact c.requires.data_pages in
    let inside : index < length pages = omega arith in
    let step = c.fill_page.ensures.device in
    record {
      device = pages_more (IsFilledWord volume_pages) (fill_of_page volume_pages c.args.first.now) volume_pages index (514 * (index + 1)) pages (filled_is_own volume_pages) valid inside (omega arith) so_far.device step;
      filled = each_more (λ page. IsSlotPage volume_pages old c.args.first.now page) (λ page. IsSlotPage volume_pages new c.args.first.now page) pages index
          (λ earlier before. slot_page_stays volume_pages (slice_index pages earlier) old new c.args.first.now (λ word. earlier_kept (IsFilledWord volume_pages) volume_pages index pages (filled_is_own volume_pages) valid inside step.interval earlier word before))
          c.fill_page.ensures.filled so_far.filled;
    }

pub returns-clause-device : goal.returns-clause-device
returns-clause-device g c =
    let pages = c.args.pages.now in
    pages_done (IsFilledWord c.args.geometry.now.pages) (fill_of_page c.args.geometry.now.pages c.args.first.now) pages c.loop-page.page-index (514 * length pages) (omega arith) (omega arith) c.loop-page.invariant.device

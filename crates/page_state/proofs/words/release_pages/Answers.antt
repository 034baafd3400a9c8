use Rattle.std.proofs.Common.{inr, ℕ, ◌+◌, ◌*◌, ◌<◌, length, slice_index, subst, arith}
use Rattle.pm_trait.proofs.DeviceLaws.{interval_length}
use Rattle.page_state.specs.Page.{AreDataPages, IsReleasedWord, IsWithoutKind}
use Rattle.page_state.specs.Events.{release_of_page}
use Rattle.page_state.proofs.Contents.{same_length}
use Rattle.page_state.proofs.Releases.{released_is_own, release_told, release_reads, without_kind_stays}
use Rattle.page_state.proofs.Told.{no_pages, pages_more, pages_done}
use Rattle.page_state.proofs.Pages.{earlier_kept, each_more}
use Rattle.page_state.proofs.words.release_pages.Goals as goal

pub loop-page-init : goal.loop-page-init
loop-page-init g c = record {
  device = no_pages (IsReleasedWord c.args.geometry.now.pages) (release_of_page c.args.geometry.now.pages) c.args.pages.now (g.P.Pm.view c.args.pm.now);
  released = λ index below. absurd (omega (arith, below));
}

pub store-requires-clause-in_range : goal.store-requires-clause-in_range
store-requires-clause-in_range g c =
    let before = c.requires.inside c.descriptor_word.result (record { index = c.loop-page.page-index; before = omega arith; is = inr (record { field = 1; is_field = omega arith; at = c.descriptor_word.ensures.value }) }) in
    omega (arith, before, interval_length c.loop-page.invariant.device.interval)

pub store-requires-in-loop-page-clause-in_range : goal.store-requires-in-loop-page-clause-in_range
store-requires-in-loop-page-clause-in_range g c =
    let before = c.requires.inside c.descriptor_word-in-loop-page.result (record { index = c.loop-page.page-index; before = omega arith; is = inr (record { field = 2; is_field = omega arith; at = c.descriptor_word-in-loop-page.ensures.value }) }) in
    omega (arith, before, interval_length c.loop-page.invariant.device.interval, same_length _ _ _ _ c.store.ensures.words)

pub loop-page-preserved : goal.loop-page-preserved
loop-page-preserved g c =
    let so_far = c.loop-page.invariant in
    let geometry = c.args.geometry.now in
    let volume_pages = geometry.pages in
    let pages = c.args.pages.now in
    let index = c.loop-page.page-index in
    let old = (g.P.Pm.view c.loop-page.pm).words in
    let half = (g.P.Pm.view c.store.new.self).words in
    let new = (g.P.Pm.view c.store-in-loop-page.new.self).words in
    let valid = subst (λ (d : ℕ). AreDataPages d pages) geometry.data_pages_exact c.requires.data_pages in
    let inside : index < length pages = omega arith in
    let page = slice_index pages index in
    let kind = c.descriptor_word.ensures.value in
    let offset = c.descriptor_word-in-loop-page.ensures.value in
    let step = release_told volume_pages page c.descriptor_word.result c.descriptor_word-in-loop-page.result kind offset c.store.ensures c.store-in-loop-page.ensures in
    let first = c.requires.inside c.descriptor_word.result (record { index = index; before = inside; is = inr (record { field = 1; is_field = omega arith; at = kind }) }) in
    let second = c.requires.inside c.descriptor_word-in-loop-page.result (record { index = index; before = inside; is = inr (record { field = 2; is_field = omega arith; at = offset }) }) in
    let long = interval_length so_far.device.interval in
    record {
      device = pages_more (IsReleasedWord volume_pages) (release_of_page volume_pages) volume_pages index (2 * (index + 1)) pages (released_is_own volume_pages) valid inside (omega arith) so_far.device step;
      released = each_more (IsWithoutKind volume_pages old) (IsWithoutKind volume_pages new) pages index
          (λ earlier before. without_kind_stays volume_pages (slice_index pages earlier) old new (λ word. earlier_kept (IsReleasedWord volume_pages) volume_pages index pages (released_is_own volume_pages) valid inside step.interval earlier word before))
          (release_reads old half new volume_pages page c.descriptor_word.result c.descriptor_word-in-loop-page.result kind offset (omega (arith, first, long)) (omega (arith, second, long)) c.store.ensures.words c.store-in-loop-page.ensures.words) so_far.released;
    }

pub returns-clause-device : goal.returns-clause-device
returns-clause-device g c =
    let pages = c.args.pages.now in
    pages_done (IsReleasedWord c.args.geometry.now.pages) (release_of_page c.args.geometry.now.pages) pages c.loop-page.page-index (2 * length pages) (omega arith) (omega arith) c.loop-page.invariant.device

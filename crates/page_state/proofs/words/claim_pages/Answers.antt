use Rattle.std.proofs.Common.{◌≡◌, inr, ℕ, ◌+◌, ◌<◌, length, slice_index, subst, arith}
use Rattle.pm_trait.proofs.DeviceLaws.{interval_length}
use Rattle.layout.specs.Fields.{page_owner}
use Rattle.page_state.specs.Page.{AreDataPages, IsOwnerWord}
use Rattle.page_state.specs.Events.{claim_of_page}
use Rattle.page_state.proofs.Contents.{owner_is_own, owner_stays, owner_stored}
use Rattle.page_state.proofs.Told.{claim_told, no_pages, pages_more, pages_done}
use Rattle.page_state.proofs.Pages.{earlier_kept, each_more}
use Rattle.page_state.proofs.words.claim_pages.Goals as goal

pub loop-page-init : goal.loop-page-init
loop-page-init g c = record {
  device = no_pages (IsOwnerWord c.args.geometry.now.pages) (claim_of_page c.args.geometry.now.pages c.args.owner) c.args.pages.now (g.P.Pm.view c.args.pm.now);
  owner = λ index below. absurd (omega (arith, below));
}

pub store-requires-clause-in_range : goal.store-requires-clause-in_range
store-requires-clause-in_range g c =
    let before = c.requires.inside c.descriptor_word.result (record { index = c.loop-page.page-index; before = omega arith; is = inr (record { field = 0; is_field = omega arith; at = c.descriptor_word.ensures.value }) }) in
    omega (arith, before, interval_length c.loop-page.invariant.device.interval)

pub loop-page-preserved : goal.loop-page-preserved
loop-page-preserved g c =
    let so_far = c.loop-page.invariant in
    let geometry = c.args.geometry.now in
    let volume_pages = geometry.pages in
    let pages = c.args.pages.now in
    let index = c.loop-page.page-index in
    let word = c.descriptor_word.result in
    let at = c.descriptor_word.ensures.value in
    let old = (g.P.Pm.view c.loop-page.pm).words in
    let new = (g.P.Pm.view c.store.new.self).words in
    let valid = subst (λ (d : ℕ). AreDataPages d pages) geometry.data_pages_exact c.requires.data_pages in
    let inside : index < length pages = omega arith in
    let page = slice_index pages index in
    let step = claim_told volume_pages page c.args.owner word at c.store.ensures in
    let before = c.requires.inside word (record { index = index; before = inside; is = inr (record { field = 0; is_field = omega arith; at = at }) }) in
    let in_device : word < length old = omega (arith, before, interval_length so_far.device.interval) in
    record {
      device = pages_more (IsOwnerWord volume_pages) (claim_of_page volume_pages c.args.owner) volume_pages index (index + 1) pages (owner_is_own volume_pages) valid inside (omega arith) so_far.device step;
      owner = each_more (λ page. page_owner volume_pages old page ≡ c.args.owner) (λ page. page_owner volume_pages new page ≡ c.args.owner) pages index
          (λ earlier order. owner_stays volume_pages (slice_index pages earlier) c.args.owner old new (λ other. earlier_kept (IsOwnerWord volume_pages) volume_pages index pages (owner_is_own volume_pages) valid inside step.interval earlier other order))
          (owner_stored volume_pages page c.args.owner word old new at in_device c.store.ensures.words) so_far.owner;
    }

pub returns-clause-device : goal.returns-clause-device
returns-clause-device g c =
    let pages = c.args.pages.now in
    pages_done (IsOwnerWord c.args.geometry.now.pages) (claim_of_page c.args.geometry.now.pages c.args.owner) pages c.loop-page.page-index (length pages) (omega arith) (omega arith) c.loop-page.invariant.device

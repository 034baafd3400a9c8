use Rattle.std.proofs.Common.{◌≡◌, slice_index, arith, rules}
use Rattle.pm_trait.proofs.DeviceLaws.{interval_length}
use Rattle.page_state.proofs.Contents.{content_word_is, slots_more}
use Rattle.page_state.proofs.Told.{no_word_stored, one_more_stored, all_stored}
use Rattle.page_state.proofs.words.store_slots.Goals as goal

pub loop-place-init : goal.loop-place-init
loop-place-init g c = record {
  device = no_word_stored c.args.geometry.now.pages c.args.first.now c.args.page (g.P.Pm.view c.args.pm.now);
  contents = λ place below. absurd (omega (arith, below));
}

pub store-requires-clause-in_range : goal.store-requires-clause-in_range
store-requires-clause-in_range g c =
    let before = c.requires.inside c.page_word.result (content_word_is c.args.geometry.now.pages c.args.page c.loop-place.place c.page_word.result (omega arith) c.page_word.ensures.value) in
    omega (arith, before, interval_length c.loop-place.invariant.device.interval)

pub loop-place-preserved : goal.loop-place-preserved
loop-place-preserved g c =
    let so_far = c.loop-place.invariant in
    let volume_pages = c.args.geometry.now.pages in
    let place = c.loop-place.place in
    let at = c.page_word.ensures.value in
    let value : c.unwrap_or-value.result ≡ slice_index c.args.first.now place = search rules in
    let inside = c.requires.inside c.page_word.result (content_word_is volume_pages c.args.page place c.page_word.result (omega arith) at) in
    record {
      device = one_more_stored volume_pages c.args.first.now c.args.page place c.page_word.result c.unwrap_or-value.result (omega arith) at value so_far.device c.store.ensures;
      contents = slots_more (g.P.Pm.view c.loop-place.pm).words (g.P.Pm.view c.store.new.self).words c.args.first.now volume_pages c.args.page place c.page_word.result c.unwrap_or-value.result (omega arith) at (omega (arith, inside, interval_length so_far.device.interval)) value c.store.ensures.words so_far.contents;
    }

pub returns-clause-device : goal.returns-clause-device
returns-clause-device g c = all_stored c.args.geometry.now.pages c.args.first.now c.args.page c.loop-place.place (omega arith) c.loop-place.invariant.device

use Rattle.std.proofs.Common.{inl, inr, ℕ, ◌<◌, subst, arith}
use Rattle.pm_trait.proofs.DeviceLaws.{interval_length}
use Rattle.page_state.proofs.Contents.{same_length, fill_reads}
use Rattle.page_state.proofs.Told.{fill_told}
use Rattle.page_state.proofs.words.fill_page.Goals as goal

pub store_slots-requires-clause-inside : goal.store_slots-requires-clause-inside
store_slots-requires-clause-inside g c = λ word content. c.requires.inside word (inl content)

pub store-requires-clause-in_range : goal.store-requires-clause-in_range
store-requires-clause-in_range g c =
    let before = c.requires.inside c.descriptor_word.result (inr (record { field = 1; is_field = omega arith; at = c.descriptor_word.ensures.value })) in
    omega (arith, before, interval_length c.store_slots.ensures.device.interval)

pub store-requires-2-clause-in_range : goal.store-requires-2-clause-in_range
store-requires-2-clause-in_range g c =
    let before = c.requires.inside c.descriptor_word-2.result (inr (record { field = 2; is_field = omega arith; at = c.descriptor_word-2.ensures.value })) in
    omega (arith, before, interval_length c.store_slots.ensures.device.interval, same_length _ _ _ _ c.store.ensures.words)

pub returns-clause-filled : goal.returns-clause-filled
returns-clause-filled g c =
    let geometry = c.args.geometry.now in
    let in_range = subst (λ (d : ℕ). c.args.page < d) geometry.data_pages_exact c.requires.in_range in
    let first = c.requires.inside c.descriptor_word.result (inr (record { field = 1; is_field = omega arith; at = c.descriptor_word.ensures.value })) in
    let second = c.requires.inside c.descriptor_word-2.result (inr (record { field = 2; is_field = omega arith; at = c.descriptor_word-2.ensures.value })) in
    let long = interval_length c.store_slots.ensures.device.interval in
    fill_reads (g.P.Pm.view c.store_slots.new.pm).words (g.P.Pm.view c.store.new.self).words (g.P.Pm.view c.store-2.new.self).words c.args.first.now geometry.pages c.args.page c.descriptor_word.result c.descriptor_word-2.result in_range
    c.descriptor_word.ensures.value c.descriptor_word-2.ensures.value (omega (arith, first, long)) (omega (arith, second, long)) c.store.ensures.words c.store-2.ensures.words c.store_slots.ensures.contents

pub returns-clause-device : goal.returns-clause-device
returns-clause-device g c =
    let geometry = c.args.geometry.now in
    fill_told geometry.pages c.args.first.now c.args.page c.descriptor_word.result c.descriptor_word-2.result (subst (λ (d : ℕ). c.args.page < d) geometry.data_pages_exact c.requires.in_range)
    c.descriptor_word.ensures.value c.descriptor_word-2.ensures.value c.store_slots.ensures.device c.store.ensures c.store-2.ensures

use Rattle.std.proofs.Common.{inl, inr, ℕ, ◌*◌, ◌<◌, subst, arith}
use Rattle.pm_trait.proofs.DeviceLaws.{interval_length}
use Rattle.page_state.proofs.Contents.{same_length}
use Rattle.page_state.proofs.Told.{described_told}
use Rattle.page_state.proofs.Pieces.{all_pieces}
use Rattle.page_state.proofs.NewStores.{whole_told, bytes_reads, described_words}
use Rattle.page_state.proofs.bytes.fill_page.Goals as goal

pub store_page-requires-clause-inside : goal.store_page-requires-clause-inside
store_page-requires-clause-inside g c = λ word content. c.requires.inside word (inl content)

pub store_page-requires-clause-room : goal.store_page-requires-clause-room
store_page-requires-clause-room g c =
    let all = all_pieces c.args.span.now (4096 * c.args.offset) 8 512 c.requires.whole (omega arith) in
    omega (arith, all, c.requires.room)

pub store-requires-clause-in_range : goal.store-requires-clause-in_range
store-requires-clause-in_range g c =
    let before = c.requires.inside c.descriptor_word.result (inr (record { field = 1; is_field = omega arith; at = c.descriptor_word.ensures.value })) in
    omega (arith, before, interval_length c.store_page.ensures.device.interval)

pub store-requires-clause-room : goal.store-requires-clause-room
store-requires-clause-room g c =
    let all = all_pieces c.args.span.now (4096 * c.args.offset) 8 512 c.requires.whole (omega arith) in
    let taken = c.store_page.ensures.device.room in
    omega (arith, all, taken, c.requires.room)

pub store-requires-2-clause-in_range : goal.store-requires-2-clause-in_range
store-requires-2-clause-in_range g c =
    let before = c.requires.inside c.descriptor_word-2.result (inr (record { field = 2; is_field = omega arith; at = c.descriptor_word-2.ensures.value })) in
    omega (arith, before, interval_length c.store_page.ensures.device.interval, same_length _ _ _ _ c.store.ensures.words)

pub store-requires-2-clause-room : goal.store-requires-2-clause-room
store-requires-2-clause-room g c =
    let all = all_pieces c.args.span.now (4096 * c.args.offset) 8 512 c.requires.whole (omega arith) in
    let taken = c.store_page.ensures.device.room in
    let kind = c.store.ensures.room in
    omega (arith, all, taken, kind, c.requires.room)

pub returns-clause-words : goal.returns-clause-words
returns-clause-words g c =
    let geometry = c.args.geometry.now in
    let in_range = subst (λ (d : ℕ). c.args.page < d) geometry.data_pages_exact c.requires.in_range in
    described_words c.args.span.now c.args.bytes.now (g.P.Pm.view c.args.pm.now).words (g.P.Pm.view c.store_page.new.pm).words (g.P.Pm.view c.store.new.self).words (g.P.Pm.view c.store-2.new.self).words geometry.pages c.args.offset c.args.page 1 c.args.offset
    c.descriptor_word.result c.descriptor_word-2.result in_range c.descriptor_word.ensures.value c.descriptor_word-2.ensures.value c.store.ensures.words c.store-2.ensures.words c.store_page.ensures.words

pub returns-clause-filled : goal.returns-clause-filled
returns-clause-filled g c =
    let geometry = c.args.geometry.now in
    let in_range = subst (λ (d : ℕ). c.args.page < d) geometry.data_pages_exact c.requires.in_range in
    let first = c.requires.inside c.descriptor_word.result (inr (record { field = 1; is_field = omega arith; at = c.descriptor_word.ensures.value })) in
    let second = c.requires.inside c.descriptor_word-2.result (inr (record { field = 2; is_field = omega arith; at = c.descriptor_word-2.ensures.value })) in
    let long = interval_length c.store_page.ensures.device.interval in
    bytes_reads (g.P.Pm.view c.store_page.new.pm).words (g.P.Pm.view c.store.new.self).words (g.P.Pm.view c.store-2.new.self).words geometry.pages c.args.page c.args.offset c.descriptor_word.result c.descriptor_word-2.result in_range
    c.descriptor_word.ensures.value c.descriptor_word-2.ensures.value (omega (arith, first, long)) (omega (arith, second, long)) c.store.ensures.words c.store-2.ensures.words

pub returns-clause-device : goal.returns-clause-device
returns-clause-device g c =
    let geometry = c.args.geometry.now in
    let all = all_pieces c.args.span.now (4096 * c.args.offset) 8 512 c.requires.whole (omega arith) in
    let contents = whole_told c.args.span.now c.args.bytes.now geometry.pages c.args.offset c.args.page c.requires.whole (omega (arith, all)) c.store_page.ensures.device in
    described_told geometry.pages c.args.page c.descriptor_word.result c.descriptor_word-2.result 1 c.args.offset (subst (λ (d : ℕ). c.args.page < d) geometry.data_pages_exact c.requires.in_range)
    c.descriptor_word.ensures.value c.descriptor_word-2.ensures.value contents c.store.ensures c.store-2.ensures

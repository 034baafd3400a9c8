use Rattle.std.proofs.Common.{◌+◌, ◌*◌, arith}
use Rattle.page_state.proofs.SpanLaws.{has_new-in_range}
use Rattle.page_state.proofs.NewStores.{stored_in_range, stored_room, one_stored, all_stored}
use Rattle.page_state.proofs.bytes.store_page.Goals as goal

pub store_word-requires-clause-in_range : goal.store_word-requires-clause-in_range
store_word-requires-clause-in_range g c =
    stored_in_range c.args.span.now c.args.bytes.now c.args.geometry.now.pages c.args.offset c.args.page c.head.place c.head.invariant c.page_word-word.result (omega arith) c.page_word-word.ensures.value c.requires.inside

pub store_word-requires-clause-room : goal.store_word-requires-clause-room
store_word-requires-clause-room g c =
    stored_room c.args.span.now c.args.bytes.now c.args.geometry.now.pages c.args.offset c.args.page c.head.place c.head.invariant c.page_word-word.result (omega arith) c.page_word-word.ensures.value c.requires.room

pub head-preserved : goal.head-preserved
head-preserved g c =
    one_stored c.args.span.now c.args.bytes.now c.args.geometry.now.pages c.args.offset c.args.page c.head.place c.head.invariant c.page_word-word.result (omega arith) c.page_word-word.ensures.value c.store_word.ensures.word c.store_word.ensures.device

pub store_of_range-requires-clause-in_range : goal.store_of_range-requires-clause-in_range
store_of_range-requires-clause-in_range g c =
    stored_in_range c.args.span.now c.args.bytes.now c.args.geometry.now.pages c.args.offset c.args.page c.whole.place c.whole.invariant c.page_word-word-in-whole.result (omega arith) c.page_word-word-in-whole.ensures.value c.requires.inside

pub store_of_range-requires-clause-room : goal.store_of_range-requires-clause-room
store_of_range-requires-clause-room g c =
    let (from, to) = c.whole_words-from.ensures.of_range c.whole.place (omega arith) (omega arith) in
    stored_room c.args.span.now c.args.bytes.now c.args.geometry.now.pages c.args.offset c.args.page c.whole.place c.whole.invariant c.page_word-word-in-whole.result (omega arith) c.page_word-word-in-whole.ensures.value c.requires.room
    (has_new-in_range c.args.span.now (4096 * c.args.offset + 8 * c.whole.place) 8 (omega arith) (omega (arith, from, to)) (omega (arith, to)) (omega (arith, from)))

pub whole-preserved : goal.whole-preserved
whole-preserved g c =
    one_stored c.args.span.now c.args.bytes.now c.args.geometry.now.pages c.args.offset c.args.page c.whole.place c.whole.invariant c.page_word-word-in-whole.result (omega arith) c.page_word-word-in-whole.ensures.value c.store_of_range.ensures.word c.store_of_range.ensures.device

pub store_word-requires-in-tail-clause-in_range : goal.store_word-requires-in-tail-clause-in_range
store_word-requires-in-tail-clause-in_range g c =
    stored_in_range c.args.span.now c.args.bytes.now c.args.geometry.now.pages c.args.offset c.args.page c.tail.place c.tail.invariant c.page_word-word-in-tail.result (omega arith) c.page_word-word-in-tail.ensures.value c.requires.inside

pub store_word-requires-in-tail-clause-room : goal.store_word-requires-in-tail-clause-room
store_word-requires-in-tail-clause-room g c =
    stored_room c.args.span.now c.args.bytes.now c.args.geometry.now.pages c.args.offset c.args.page c.tail.place c.tail.invariant c.page_word-word-in-tail.result (omega arith) c.page_word-word-in-tail.ensures.value c.requires.room

pub tail-preserved : goal.tail-preserved
tail-preserved g c =
    one_stored c.args.span.now c.args.bytes.now c.args.geometry.now.pages c.args.offset c.args.page c.tail.place c.tail.invariant c.page_word-word-in-tail.result (omega arith) c.page_word-word-in-tail.ensures.value c.store_word-in-tail.ensures.word c.store_word-in-tail.ensures.device

pub returns-clause-device : goal.returns-clause-device
returns-clause-device g c = all_stored c.args.span.now c.args.bytes.now c.args.geometry.now.pages c.args.offset c.args.page c.tail.place c.tail.invariant (omega arith)

use Rattle.std.proofs.Common.{◌≡◌, ◌+◌, ◌-◌, ◌*◌, true, sym, ◌∙◌, arith}
use Rattle.page_state.proofs.Contents.{content_word_is}
use Rattle.page_state.proofs.Lines.{line_order, line_alone, line_between}
use Rattle.page_state.proofs.NewFlushes.{line_flushed}
use Rattle.page_state.specs.Spans.{has_new}
use Rattle.page_state.proofs.flushes.flush_line.Goals as goal

pub flush_span-requires-clause-order : goal.flush_span-requires-clause-order
flush_span-requires-clause-order g c = line_order c.args.geometry.now.pages c.args.page c.args.line _ _ c.page_word-first.ensures.value c.page_word-last.ensures.value

pub flush_span-requires-clause-in_range : goal.flush_span-requires-clause-in_range
flush_span-requires-clause-in_range g c =
    c.requires.inside c.page_word-last.result (content_word_is c.args.geometry.now.pages c.args.page (8 * c.args.line + 8 - 1) c.page_word-last.result (omega arith) c.page_word-last.ensures.value)

pub flush_span-requires-clause-room : goal.flush_span-requires-clause-room
flush_span-requires-clause-room g c =
    let alone = line_alone c.args.geometry.now.pages c.args.page c.args.line _ _ c.page_word-first.ensures.value c.page_word-last.ensures.value in
    let has : has_new c.args.span.now c.args.at 64 ≡ true = sym c.has_new.ensures ∙ c.if-has_new.true in
    let room = c.requires.room has in
    omega (arith, alone, room)

pub returns-then-has_new-clause-flushed : goal.returns-then-has_new-clause-flushed
returns-then-has_new-clause-flushed g c = λ has place of_line.
    let between = line_between c.args.geometry.now.pages c.args.page c.args.line place _ _ c.page_word-first.ensures.value c.page_word-last.ensures.value of_line in
    c.flush_span.ensures.flushed _ between.0 between.1

pub returns-then-has_new-clause-device : goal.returns-then-has_new-clause-device
returns-then-has_new-clause-device g c =
    let has : has_new c.args.span.now c.args.at 64 ≡ true = sym c.has_new.ensures ∙ c.if-has_new.true in
    line_flushed (has_new c.args.span.now c.args.at 64) c.args.geometry.now.pages c.args.page c.args.line c.page_word-first.result c.page_word-last.result has c.page_word-first.ensures.value c.page_word-last.ensures.value c.flush_span.ensures.device

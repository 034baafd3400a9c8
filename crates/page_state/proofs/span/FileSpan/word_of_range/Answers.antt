use Rattle.std.proofs.Common.{◌∙◌, arith}
use Rattle.page_state.proofs.NewBytes.{word_of_range}
use Rattle.page_state.proofs.SpanLaws.{has_new-in_range}
use Rattle.page_state.proofs.span.FileSpan.word_of_range.Goals as goal

pub returns-clause-word : goal.returns-clause-word
returns-clause-word c = λ old. c.word_from.ensures ∙ word_of_range c.args.self.now c.args.bytes.now c.args.at old c.requires.long c.requires.from c.requires.to

pub returns-clause-new : goal.returns-clause-new
returns-clause-new c =
    let from = c.requires.from in
    let to = c.requires.to in
    has_new-in_range c.args.self.now c.args.at 8 (omega arith) (omega (arith, from, to)) (omega (arith, to)) (omega (arith, from))

use Rattle.std.proofs.Common.{◌≡◌, true, arith}
use Rattle.page_state.proofs.NewBytes.{word_of_zeros}
use Rattle.page_state.proofs.span.FileSpan.whole_word.Goals as goal

pub returns-then-self-at-clause-word : goal.returns-then-self-at-clause-word
returns-then-self-at-clause-word c = λ old.
    word_of_zeros c.args.self.now c.args.bytes.now c.args.at old
    (λ meets. let is : c.meets_range.result ≡ true = c.meets_range.ensures.1 meets in absurd (cc (is, c.if-not-meets_range.true)))
    (omega (arith, c.if-self-at.true))

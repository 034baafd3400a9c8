use Rattle.std.proofs.Common.{◌≡◌, true, sym, ◌∙◌}
use Rattle.page_state.proofs.SpanLaws.{has_new-in_range, has_new-test}
use Rattle.page_state.proofs.span.FileSpan.has_new.Goals as goal

pub returns-then-meets_range : goal.returns-then-meets_range
returns-then-meets_range c =
    let meets = c.meets_range.ensures.0 c.if-meets_range.true in
    c.if-meets_range.true ∙ sym (has_new-in_range c.args.self.now c.args.at c.args.count c.requires.some meets.0 meets.1 meets.2)

pub returns-else-meets_range : goal.returns-else-meets_range
returns-else-meets_range c =
    has_new-test c.args.self.now c.args.at c.args.count c.requires.some
    (λ long high low. let meets : c.meets_range.result ≡ true = c.meets_range.ensures.1 (long, high, low) in absurd (cc (meets, c.if-meets_range.false)))

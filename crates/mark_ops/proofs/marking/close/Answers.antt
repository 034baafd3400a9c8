use Rattle.std.proofs.Common.{sym, ◌∙◌}
use Rattle.mark_ops.proofs.Changed.{closes_unmarked}
use Rattle.mark_ops.proofs.marking.close.Goals as goal

pub returns : goal.returns
returns g c = record {
  closes = λ state stands. closes_unmarked (sym c.marked.ensures ∙ c.if-marked.false) c.set_word.ensures.takes stands;
}

use Rattle.std.proofs.Common.{◌∙◌, sym, arith}
use Rattle.squirrel.proofs.PowersOfTwo.{power_of_two_tells}
use Rattle.squirrel.proofs.watched.is_due.Goals as goal

pub returns-then-lines-ge-FIRST_TOLD : goal.returns-then-lines-ge-FIRST_TOLD
returns-then-lines-ge-FIRST_TOLD c =
    let tells = power_of_two_tells c.args.lines (omega arith) in
    (λ is_true. (c.if-lines-ge-FIRST_TOLD.true, tells.0 (sym c.is_power_of_two.ensures ∙ is_true)), λ due. c.is_power_of_two.ensures ∙ tells.1 due.1)

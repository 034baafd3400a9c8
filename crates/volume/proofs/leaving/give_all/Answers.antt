use Rattle.std.proofs.Common.{Bool, true, List, get_or, sym, ap, subst, ◌∙◌}
use Rattle.std.specs.Prelude.{slice_set}
use Rattle.std.proofs.lemmas.List.Elements.{Contains-get_or}
use Rattle.volume.specs.Entered.{IsTaken}
use Rattle.volume.proofs.Given.{still_taken, one_given}
use Rattle.volume.proofs.leaving.give_all.Goals as goal

pub give-requires-clause-in_range : goal.give-requires-clause-in_range
give-requires-clause-in_range c =
    let number = get_or c.args.numbers.now c.loop-number.number-index 0 in
    let taken = c.requires.taken number (Contains-get_or c.args.numbers.now c.loop-number.number-index 0 c.loop-number-test.true) in
    (subst (λ (free : List Bool). IsTaken free number) (sym c.loop-number.invariant) (still_taken c.args.free.now c.args.numbers.now c.loop-number.number-index c.loop-number-test.true c.requires.once taken)).0

pub give-requires-clause-taken : goal.give-requires-clause-taken
give-requires-clause-taken c =
    let number = get_or c.args.numbers.now c.loop-number.number-index 0 in
    let taken = c.requires.taken number (Contains-get_or c.args.numbers.now c.loop-number.number-index 0 c.loop-number-test.true) in
    (subst (λ (free : List Bool). IsTaken free number) (sym c.loop-number.invariant) (still_taken c.args.free.now c.args.numbers.now c.loop-number.number-index c.loop-number-test.true c.requires.once taken)).1

pub loop-number-preserved : goal.loop-number-preserved
loop-number-preserved c =
    let number = get_or c.args.numbers.now c.loop-number.number-index 0 in
    one_given c.args.free.now c.args.numbers.now c.loop-number.number-index c.loop-number-test.true c.give.new.self (c.give.ensures.numbers ∙ ap (λ (free : List Bool). slice_set free number true) c.loop-number.invariant)

use Rattle.std.proofs.Common.{Bool, false, List, get_or, sym, ap, subst, ◌∙◌}
use Rattle.std.specs.Prelude.{slice_set}
use Rattle.std.proofs.lemmas.List.Elements.{Contains-get_or}
use Rattle.allocators.specs.Numbers.{IsFree}
use Rattle.volume.proofs.Grown.{still_free, one_taken}
use Rattle.volume.proofs.contents.take_all.Goals as goal

pub take-requires : goal.take-requires
take-requires c =
    let number = get_or c.args.numbers.now c.loop-number.number-index 0 in
    let is_free = c.requires.free number (Contains-get_or c.args.numbers.now c.loop-number.number-index 0 c.loop-number-test.true) in
    record { free = subst (λ (free : List Bool). IsFree free number) (sym c.loop-number.invariant) (still_free c.args.free.now c.args.numbers.now c.loop-number.number-index c.loop-number-test.true c.requires.once is_free) }

pub loop-number-preserved : goal.loop-number-preserved
loop-number-preserved c =
    let number = get_or c.args.numbers.now c.loop-number.number-index 0 in
    one_taken c.args.free.now c.args.numbers.now c.loop-number.number-index c.loop-number-test.true c.take.new.self (c.take.ensures.numbers ∙ ap (λ (free : List Bool). slice_set free number false) c.loop-number.invariant)

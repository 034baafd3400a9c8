use Rattle.std.proofs.Common.{ap, sym, ◌∙◌, arith}
use Rattle.allocators.specs.Numbers.{free_in}
use Rattle.allocators.proofs.NumbersLaws.{count_of_all}
use Rattle.allocators.proofs.AllOnes.{all_free}
use Rattle.allocators.proofs.numbers.Numbers.new.Goals as goal

pub invariant_of-result : goal.invariant_of-result
invariant_of-result c = record {
  fits = omega arith;
  words_are = c.in_ok-all_ones.ensures.words;
  none_below = λ k below. absurd (omega arith);
  counted = sym (ap free_in (all_free c.in_ok-all_ones.field-0.items c.args.n c.in_ok-all_ones.ensures.ones) ∙ count_of_all c.args.n);
}

pub returns : goal.returns
returns c = all_free c.in_ok-all_ones.field-0.items c.args.n c.in_ok-all_ones.ensures.ones

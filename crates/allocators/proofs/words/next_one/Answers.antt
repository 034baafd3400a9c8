use Rattle.std.proofs.Common.{◌+◌, ◌*◌, arith}
use Rattle.allocators.proofs.Searches.{passed_word, found_in_word, none_behind}
use Rattle.allocators.proofs.words.next_one.Goals as goal

pub returns-in-Some-clause-found : goal.returns-in-Some-clause-found
returns-in-Some-clause-found g c =
    found_in_word c.args.words.now (64 * c.args.word + c.args.bit) c.loop-place.place c.loop-place.low c.in-Some.first c.loop-place.invariant.reached c.loop-place.invariant.passed c.in-Some.ensures.found

pub loop-place-preserved : goal.loop-place-preserved
loop-place-preserved g c = record {
  low = omega arith;
  reached = let low = c.loop-place.invariant.low in let reached = c.loop-place.invariant.reached in omega (arith, low, reached);
  passed = passed_word c.args.words.now (64 * c.args.word + c.args.bit) c.loop-place.place c.loop-place.low c.loop-place.invariant.low c.loop-place.invariant.passed c.in_default.ensures.found;
  end = omega arith;
  cost = let one = c.in_default.ensures.cost in let cost = c.loop-place.invariant.cost in let auto = c.loop-place.auto.place in omega (arith, one, cost, auto);
}

pub returns-clause-found : goal.returns-clause-found
returns-clause-found g c = none_behind c.args.words.now (64 * c.args.word + c.args.bit) c.loop-place.place c.loop-place.low c.loop-place-test.false c.loop-place.invariant.passed

pub returns-clause-cost : goal.returns-clause-cost
returns-clause-cost g c = let cost = c.loop-place.invariant.cost in let end = c.loop-place.invariant.end in omega (arith, cost, end)

use Rattle.std.proofs.Common.{sym, arith}
use Rattle.volatile_index.proofs.Halving.{less_up_to, greater_from, found_here, step_cost, step_halves}
use Rattle.volatile_index.proofs.search.search.Goals as goal

pub loop-low-preserved-in-Less : goal.loop-low-preserved-in-Less
loop-low-preserved-in-Less g c =
    let invariant = c.loop-low.invariant in
    let less = sym c.in-Less.ensures.order in
    let most = invariant.within in
    record {
      order = omega arith;
      within = invariant.within;
      less = less_up_to c.args.name.now c.args.entries.now.items _ c.get.result.now c.requires c.get.ensures less;
      greater = invariant.greater;
      counted = let begun = invariant.counted in let one = c.in-Less.ensures.cost in omega (arith, begun, one);
      halves = step_halves _ _ _ _ _ invariant.counted c.in-Less.ensures.cost (omega arith) invariant.halves _ (omega arith);
    }

pub returns-in-Equal-clause-found : goal.returns-in-Equal-clause-found
returns-in-Equal-clause-found g c =
    let equal = sym c.in-Equal.ensures.order in
    found_here c.args.name.now c.args.entries.now.items _ c.get.result.now c.requires c.get.ensures equal

pub returns-in-Equal-clause-cost : goal.returns-in-Equal-clause-cost
returns-in-Equal-clause-cost g c = step_cost _ _ _ _ _ c.loop-low.invariant.counted c.in-Equal.ensures.cost (omega arith) c.loop-low.invariant.halves

pub loop-low-preserved : goal.loop-low-preserved
loop-low-preserved g c =
    let invariant = c.loop-low.invariant in
    let greater = sym c.in-Greater.ensures.order in
    let most = invariant.within in
    record {
      order = omega arith;
      within = omega (arith, most);
      less = invariant.less;
      greater = greater_from c.args.name.now c.args.entries.now.items _ c.get.result.now c.requires c.get.ensures greater;
      counted = let begun = invariant.counted in let one = c.in-Greater.ensures.cost in omega (arith, begun, one);
      halves = step_halves _ _ _ _ _ invariant.counted c.in-Greater.ensures.cost (omega arith) invariant.halves _ (omega arith);
    }

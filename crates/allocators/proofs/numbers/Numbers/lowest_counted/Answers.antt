use Rattle.std.proofs.Common.{◌*◌, ◌+◌, length, ap, sym, subst, ◌∙◌, arith}
use Rattle.allocators.proofs.Searches.{Finds, lowest_of}
use Rattle.allocators.proofs.WordLaws.{length_of}
use Rattle.allocators.proofs.numbers.Numbers.lowest_counted.Goals as goal

pub next_one-requires-clause-few : goal.next_one-requires-clause-few
next_one-requires-clause-few g c =
    let same = ap length c.deref.ensures.value in
    let few = c.self.invariant.words_are.few in
    let fits = c.self.invariant.fits in
    omega (arith, same, few, fits)

pub returns-clause-lowest : goal.returns-clause-lowest
returns-clause-lowest g c =
    rw (← c.self.view_is) (lowest_of c.self.inside.words.items c.self.inside.size (64 * c.self.inside.lowest_word + 0) c.next_one.result c.self.invariant.words_are
    (λ k below. c.self.invariant.none_below k (omega arith))
    (subst (λ words. Finds words (64 * c.self.inside.lowest_word + 0) c.next_one.result) c.deref.ensures.value c.next_one.ensures.found))

pub returns-clause-cost : goal.returns-clause-cost
returns-clause-cost g c =
    let same = ap length c.deref.ensures.value in
    let few = c.self.invariant.words_are.few in
    let cost = c.next_one.ensures.cost in
    let all = ap length (sym c.self.view_is) ∙ length_of c.self.inside.words.items c.self.inside.size in
    omega (arith, same, few, cost, all)

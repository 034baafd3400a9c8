use Rattle.std.proofs.Common.{◌*◌, ◌+◌, ◌/◌, ◌%◌, subst, arith}
use Rattle.allocators.proofs.Searches.{Finds, next_free_of}
use Rattle.allocators.proofs.numbers.Numbers.next_uncounted.Goals as goal

pub returns-then-word-self : goal.returns-then-word-self
returns-then-word-self g c =
    rw (← c.self.view_is) (next_free_of c.self.inside.words.items c.self.inside.size c.args.from (64 * c.self.inside.lowest_word + 0) c.next_one.result c.self.invariant.words_are
    (let before = c.if-word-self.true in omega (arith, before))
    (λ k reached below. c.self.invariant.none_below k (omega arith))
    (subst (λ words. Finds words (64 * c.self.inside.lowest_word + 0) c.next_one.result) c.deref.ensures.value c.next_one.ensures.found))

pub returns : goal.returns
returns g c =
    rw (← c.self.view_is) (next_free_of c.self.inside.words.items c.self.inside.size c.args.from (64 * (c.args.from / 64) + c.args.from % 64) c.next_one-else-word-self.result c.self.invariant.words_are
    (omega arith)
    (λ k reached below. let no : ⊥ = omega arith in absurd no)
    (subst (λ words. Finds words (64 * (c.args.from / 64) + c.args.from % 64) c.next_one-else-word-self.result) c.deref-else-word-self.ensures.value c.next_one-else-word-self.ensures.found))

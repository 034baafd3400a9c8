use Rattle.std.proofs.Common.{◌/◌, ◌<◌, length, arith}
use Rattle.std.proofs.lemmas.List.{get_or_read}
use Rattle.allocators.specs.Numbers.{IsFree}
use Rattle.allocators.specs.Words.{numbers_of}
use Rattle.allocators.proofs.WordLaws.{given_within}
use Rattle.allocators.proofs.Calls.{sets, kept_after_give, gives_bit, count_fits}
use Rattle.allocators.proofs.numbers.Numbers.give.Goals as goal

pub index_mut-requires : goal.index_mut-requires
index_mut-requires c =
    let within : c.args.k < length (numbers_of c.self.inside.words.items c.self.inside.size) = rw c.self.view_is c.requires.in_range in
    let inside = given_within c.self.inside.words.items c.self.inside.size c.args.k c.self.invariant.words_are within in
    omega (arith, inside, c.self.inside.words.ok.0)

pub overflow_add-self : goal.overflow_add-self
overflow_add-self c =
    let within : c.args.k < length (numbers_of c.self.inside.words.items c.self.inside.size) = rw c.self.view_is c.requires.in_range in
    let taken : ¬ IsFree (numbers_of c.self.inside.words.items c.self.inside.size) c.args.k = rw c.self.view_is c.requires.taken in
    let fits = count_fits c.self.inside.words.items c.self.inside.size c.self.inside.lowest_word c.self.inside.count c.args.k c.self.invariant within taken in
    omega (arith, fits)

pub invariant_of-self : goal.invariant_of-self
invariant_of-self c =
    let words = c.self.inside.words.items in
    let within : c.args.k < length (numbers_of words c.self.inside.size) = rw c.self.view_is c.requires.in_range in
    let taken : ¬ IsFree (numbers_of words c.self.inside.size) c.args.k = rw c.self.view_is c.requires.taken in
    let inside = given_within words c.self.inside.size c.args.k c.self.invariant.words_are within in
    let change = sets words c.args.k c.index_mut.result.now inside (get_or_read words (c.args.k / 64) c.index_mut.result.now inside c.index_mut.ensures.value 0) in
    rw c.min-self-inside.ensures (kept_after_give words _ c.self.inside.size c.self.inside.lowest_word c.self.inside.count c.args.k c.self.invariant within taken change)

pub returns : goal.returns
returns c =
    let words = c.self.inside.words.items in
    let within : c.args.k < length (numbers_of words c.self.inside.size) = rw c.self.view_is c.requires.in_range in
    let taken : ¬ IsFree (numbers_of words c.self.inside.size) c.args.k = rw c.self.view_is c.requires.taken in
    let inside = given_within words c.self.inside.size c.args.k c.self.invariant.words_are within in
    let change = sets words c.args.k c.index_mut.result.now inside (get_or_read words (c.args.k / 64) c.index_mut.result.now inside c.index_mut.ensures.value 0) in
    rw (← c.self.view_is) (gives_bit words _ c.self.inside.size c.self.inside.lowest_word c.self.inside.count c.args.k c.self.invariant within taken change)

use Rattle.std.proofs.Common.{◌/◌, get_or, ap, sym, ◌∙◌, arith}
use Rattle.std.proofs.lemmas.List.{get_or_read}
use Rattle.allocators.specs.Numbers.{IsFree}
use Rattle.allocators.specs.Words.{numbers_of}
use Rattle.allocators.proofs.WordLaws.{free_within, word_within}
use Rattle.allocators.proofs.Calls.{clears, kept_after_take, takes_bit, some_counted}
use Rattle.allocators.proofs.numbers.Numbers.take.Goals as goal

pub index_mut-requires : goal.index_mut-requires
index_mut-requires c =
    let free : IsFree (numbers_of c.self.inside.words.items c.self.inside.size) c.args.k = rw c.self.view_is c.requires.free in
    let within = word_within c.self.inside.words.items c.self.inside.size c.args.k c.self.invariant.words_are (free_within c.self.inside.words.items c.self.inside.size c.args.k free) in
    omega (arith, within, c.self.inside.words.ok.0)

pub overflow_sub-self : goal.overflow_sub-self
overflow_sub-self c =
    let free : IsFree (numbers_of c.self.inside.words.items c.self.inside.size) c.args.k = rw c.self.view_is c.requires.free in
    some_counted c.self.inside.words.items c.self.inside.size c.self.inside.lowest_word c.self.inside.count c.args.k c.self.invariant free

pub invariant_of-self : goal.invariant_of-self
invariant_of-self c =
    let words = c.self.inside.words.items in
    let free : IsFree (numbers_of words c.self.inside.size) c.args.k = rw c.self.view_is c.requires.free in
    let within = word_within words c.self.inside.size c.args.k c.self.invariant.words_are (free_within words c.self.inside.size c.args.k free) in
    let change = clears words c.args.k c.index_mut.result.now within (get_or_read words (c.args.k / 64) c.index_mut.result.now within c.index_mut.ensures.value 0) in
    kept_after_take words _ c.self.inside.size c.self.inside.lowest_word c.self.inside.count c.args.k c.self.invariant free change c.past_zeros-self-inside.result
    (λ place reached below. ap (λ list. get_or list place 0) (sym c.deref.ensures.value) ∙ c.past_zeros-self-inside.ensures.passed place reached below)

pub returns : goal.returns
returns c =
    let words = c.self.inside.words.items in
    let free : IsFree (numbers_of words c.self.inside.size) c.args.k = rw c.self.view_is c.requires.free in
    let within = word_within words c.self.inside.size c.args.k c.self.invariant.words_are (free_within words c.self.inside.size c.args.k free) in
    let change = clears words c.args.k c.index_mut.result.now within (get_or_read words (c.args.k / 64) c.index_mut.result.now within c.index_mut.ensures.value 0) in
    rw (← c.self.view_is) (takes_bit words _ c.self.inside.size c.self.inside.lowest_word c.self.inside.count c.args.k c.self.invariant free change)

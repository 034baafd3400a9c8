use Rattle.std.proofs.Common.{◌<◌, length, sym, ◌∙◌, arith}
use Rattle.std.proofs.lemmas.Bool.Decides.{nat_tests}
use Rattle.script.proofs.WordLaws.{word_before, word_last}
use Rattle.script.proofs.words.next_word.Goals as goal

pub returns-in-Some-clause-found : goal.returns-in-Some-clause-found
returns-in-Some-clause-found c =
    sym c.without_spaces-text.ensures.words ∙ word_before c.without_spaces-text.result.now c.in-Some.end c.in-Some.ensures c.without_spaces-text.ensures.first

pub returns-in-None-clause-found : goal.returns-in-None-clause-found
returns-in-None-clause-found c =
    let some : 0 < length c.without_spaces-text.result.now = grind (arith, nat_tests) in
    sym c.without_spaces-text.ensures.words ∙ word_last c.without_spaces-text.result.now c.in-None.ensures some

use Rattle.std.proofs.Common.{ap, ◌∙◌}
use Rattle.layout.specs.Name.{name_in_words, words_of}
use Rattle.layout.proofs.NameLaws.{name_in_words-words_of_name, IsNameWords-of}
use Rattle.layout.proofs.name.name_words.Goals as goal

pub returns-clause-valid : goal.returns-clause-valid
returns-clause-valid c =
    let words = c.words_of.ensures ∙ ap words_of (c.as_slice-2.ensures.value ∙ c.padded.ensures.items) in
    IsNameWords-of c.as_slice.result.now c.words_of.result c.as_slice.ensures.name c.as_slice.ensures.of_bytes words

pub returns-clause-name : goal.returns-clause-name
returns-clause-name c =
    let words = c.words_of.ensures ∙ ap words_of (c.as_slice-2.ensures.value ∙ c.padded.ensures.items) in
    ap name_in_words words
    ∙ name_in_words-words_of_name c.as_slice.result.now c.as_slice.ensures.name c.as_slice.ensures.of_bytes
    ∙ c.as_slice.ensures.bytes

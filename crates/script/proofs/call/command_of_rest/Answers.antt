use Rattle.std.proofs.Common.{rules, ℕ, List, ◌∷◌, refl, sym, ap, ◌∙◌}
use Rattle.script.specs.Lines.{of_words}
use Rattle.script.proofs.WriteWords.{write_of_text}
use Rattle.script.proofs.call.command_of_rest.Goals as goal

pub returns-then-ends_in_word : goal.returns-then-ends_in_word
returns-then-ends_in_word c =
    let text = c.without_spaces-text.result.now in
    let some = c.if-ends_in_word.ensures.some refl in
    let last = c.if-ends_in_word.ensures.last refl in
    c.write_of_words.ensures
    ∙ sym (write_of_text c.args.verb.now c.args.first.now c.args.second.now text (search rules) some (c.without_spaces-text.ensures.first some) last)
    ∙ ap (λ (words : List (List ℕ)). of_words (c.args.verb.now ∷ c.args.first.now ∷ c.args.second.now ∷ words)) c.without_spaces-text.ensures.words

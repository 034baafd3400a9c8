-- How the words of a text go on from its front.
use Rattle.std.proofs.Common.{◌≡◌, ℕ, zero, suc, ◌+◌, ◌-◌, ◌<◌, true, false, true≢false, cond, List, [], ◌∷◌, length, take, drop, slice_index, filter, refl, sym, ap, ◌∙◌, arith}
use Rattle.std.specs.List.{slice_split}
use Rattle.std.proofs.lemmas.List.{drop_all, length-take-le, take_rest}
use Rattle.std.proofs.lemmas.List.Splits.{slice_split_at, slice_split_none}
use Rattle.std.proofs.lemmas.Bool.Decides.{nat_tests}
use Rattle.script.specs.Places.{Lacks, BreaksAt}
use Rattle.script.specs.Lines.{space, is_space, is_filled, words_of}

filled : (word : List ℕ) → 0 < length word → is_filled word ≡ true
filled word some = grind (arith, nat_tests)

filter_filled : (word : List ℕ) (words : List (List ℕ)) → 0 < length word → filter is_filled (word ∷ words) ≡ word ∷ filter is_filled words
filter_filled word words some = ap (λ t. cond t (word ∷ filter is_filled words) (filter is_filled words)) (filled word some)

-- the word before a space
pub words_at : (text : List ℕ) (place : ℕ) → BreaksAt space text place → 0 < place → words_of text ≡ take place text ∷ words_of (drop (place + 1) text)
words_at text place found some =
    let within = found.within in
    ap words_of found.split
    ∙ ap (filter is_filled) (slice_split_at is_space (take place text) space (drop (place + 1) text) found.before refl)
    ∙ filter_filled (take place text) (slice_split is_space (drop (place + 1) text)) (omega (arith, within, length-take-le place text (omega (arith, within))))

-- the last word
pub words_none : (text : List ℕ) → Lacks space text → 0 < length text → words_of text ≡ text ∷ []
words_none text none some =
    ap (filter is_filled) (slice_split_none is_space text none) ∙ filter_filled text [] some

pub place_above : (text : List ℕ) (place : ℕ) → BreaksAt space text place → (0 < length text → is_space (slice_index text 0) ≡ false) → 0 < place
place_above text zero found first =
    let within = found.within in
    absurd (true≢false (sym (ap (λ t. is_space (slice_index t 0)) found.split) ∙ first (omega (arith, within))))
place_above text (suc place) found first = omega arith

-- the first word of a text that begins with one, and the rest as a slice shows it
pub word_before : (text : List ℕ) (place : ℕ) → BreaksAt space text place → (0 < length text → is_space (slice_index text 0) ≡ false)
    → words_of text ≡ take place text ∷ words_of (take (length text - (place + 1)) (drop (place + 1) text))
word_before text place found first =
    words_at text place found (place_above text place found first) ∙ ap (λ rest. take place text ∷ words_of rest) (sym (take_rest text (place + 1)))

pub word_last : (text : List ℕ) → Lacks space text → 0 < length text → words_of text ≡ text ∷ words_of (take (length text - length text) (drop (length text) text))
word_last text none some =
    words_none text none some ∙ ap (λ rest. text ∷ words_of rest) (sym (take_rest text (length text) ∙ drop_all (length text) text (omega arith)))

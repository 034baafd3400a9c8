-- How the lines of a script follow from what a reader gives.
use Rattle.std.specs.Prelude.{◌≡◌, ℕ, ◌+◌, ◌-◌, ◌<◌, Bool, true, false, nat_lt, List, [], ◌∷◌, ◌++◌, length, take, drop, flat_map, cond, Err}
use Rattle.std.specs.List.{All, onto_first}
use Rattle.std.proofs.Common.{refl, sym, ap, ◌∙◌, inl, inr, arith, append_assoc}
use Rattle.std.proofs.lemmas.Bool.Decides.{nat_tests}
use Rattle.std.proofs.lemmas.List.{drop_all, take_rest}
use Rattle.std.proofs.lemmas.List.Elements.{All-head, All-tail}
use Rattle.tree_model.specs.declared.reply.LineFault.TheVariants.{BadLine}
use Rattle.script.specs.Lines.{newline, is_newline, IsUnbroken, lines_of, onto_line, complete_lines_of, line_limit, call_of, of_words, words_of}
use Rattle.script.specs.Places.{BreaksAt}
use Rattle.script.specs.Reading.{TakesLine}

-- ---- whole lines

pub lines_of-front : (line rest : List ℕ) → IsUnbroken line → lines_of (line ++ newline ∷ rest) ≡ line ∷ lines_of rest
lines_of-front [] rest unbroken = refl
lines_of-front (b ∷ line) rest unbroken =
    ap (λ t. cond t ([] ∷ lines_of (line ++ newline ∷ rest)) (onto_first b (lines_of (line ++ newline ∷ rest)))) (All-head (λ x. is_newline x ≡ false) b line unbroken)
    ∙ ap (onto_first b) (lines_of-front line rest (All-tail (λ x. is_newline x ≡ false) b line unbroken))

pub lines_of-last : (line : List ℕ) → IsUnbroken line → 0 < length line → lines_of line ≡ line ∷ []
lines_of-last [] unbroken some = absurd (omega arith)
lines_of-last (b ∷ []) unbroken some =
    ap (λ t. cond t ([] ∷ []) (onto_first b [])) (All-head (λ x. is_newline x ≡ false) b [] unbroken)
lines_of-last (b ∷ c ∷ line) unbroken some =
    ap (λ t. cond t ([] ∷ lines_of (c ∷ line)) (onto_first b (lines_of (c ∷ line)))) (All-head (λ x. is_newline x ≡ false) b (c ∷ line) unbroken)
    ∙ ap (onto_first b) (lines_of-last (c ∷ line) (All-tail (λ x. is_newline x ≡ false) b (c ∷ line) unbroken) (omega arith))

-- the line that was taken is the first one
pub lines_of-taken : (line : List ℕ) (read : ℕ) (seen : Bool) (old new : List ℕ) → TakesLine line read seen old new → lines_of old ≡ line ∷ lines_of new
lines_of-taken line read seen old new takes = elim takes.taken [
  | inl front ↦ ap lines_of front ∙ lines_of-front line new takes.unbroken
  | inr last ↦ ap lines_of last.whole ∙ lines_of-last line takes.unbroken last.some ∙ ap (λ n. line ∷ lines_of n) (sym last.ended)
]

-- the line before a newline, and the rest as a slice shows it
pub lines_of-place : (script : List ℕ) (place : ℕ) → BreaksAt newline script place
    → lines_of script ≡ take place script ∷ lines_of (take (length script - (place + 1)) (drop (place + 1) script))
lines_of-place script place found =
    ap lines_of found.split ∙ lines_of-front (take place script) (drop (place + 1) script) found.before
    ∙ ap (λ rest. take place script ∷ lines_of rest) (sym (take_rest script (place + 1)))

pub lines_of-whole : (script : List ℕ) → IsUnbroken script → 0 < length script
    → lines_of script ≡ script ∷ lines_of (take (length script - length script) (drop (length script) script))
lines_of-whole script unbroken some =
    lines_of-last script unbroken some ∙ ap (λ rest. script ∷ lines_of rest) (sym (take_rest script (length script) ∙ drop_all (length script) script (omega arith)))

-- ---- lines that end at a newline

pub complete_lines_of-front : (line rest : List ℕ) → IsUnbroken line → complete_lines_of (line ++ newline ∷ rest) ≡ line ∷ complete_lines_of rest
complete_lines_of-front [] rest unbroken = refl
complete_lines_of-front (b ∷ line) rest unbroken =
    ap (λ t. cond t ([] ∷ complete_lines_of (line ++ newline ∷ rest)) (onto_line b (complete_lines_of (line ++ newline ∷ rest)))) (All-head (λ x. is_newline x ≡ false) b line unbroken)
    ∙ ap (onto_line b) (complete_lines_of-front line rest (All-tail (λ x. is_newline x ≡ false) b line unbroken))

pub complete_lines_of-begun : (begun : List ℕ) → IsUnbroken begun → complete_lines_of begun ≡ []
complete_lines_of-begun [] unbroken = refl
complete_lines_of-begun (b ∷ begun) unbroken =
    ap (λ t. cond t ([] ∷ complete_lines_of begun) (onto_line b (complete_lines_of begun))) (All-head (λ x. is_newline x ≡ false) b begun unbroken)
    ∙ ap (onto_line b) (complete_lines_of-begun begun (All-tail (λ x. is_newline x ≡ false) b begun unbroken))

-- the lines, each with its newline
abbrev pub with_newlines : List (List ℕ) → List ℕ
with_newlines lines = flat_map (λ line. line ++ newline ∷ []) lines

-- lines, each with its newline, and then the front of a line
pub complete_lines_of-joined : (lines : List (List ℕ)) (begun : List ℕ) → All IsUnbroken lines → IsUnbroken begun → complete_lines_of (with_newlines lines ++ begun) ≡ lines
complete_lines_of-joined [] begun each unbroken = complete_lines_of-begun begun unbroken
complete_lines_of-joined (line ∷ lines) begun each unbroken =
    ap complete_lines_of (append_assoc (line ++ newline ∷ []) (with_newlines lines) begun ∙ append_assoc line (newline ∷ []) (with_newlines lines ++ begun))
    ∙ complete_lines_of-front line (with_newlines lines ++ begun) (All-head IsUnbroken line lines each)
    ∙ ap (λ ls. line ∷ ls) (complete_lines_of-joined lines begun (All-tail IsUnbroken line lines each) unbroken)

-- ---- lines over the limit

pub call_of-long : (line : List ℕ) → line_limit < length line → call_of line ≡ Err BadLine
call_of-long line long =
    let over : nat_lt line_limit (length line) ≡ true = grind (arith, nat_tests) in
    ap (λ t. cond t (Err BadLine) (of_words (words_of line))) over

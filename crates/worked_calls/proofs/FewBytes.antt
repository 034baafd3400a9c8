-- How much room two bytes take in two pages of a file.
use Rattle.std.proofs.Common.{◌≡◌, ℕ, ◌+◌, ◌≤◌, [], ◌∷◌, ap, ◌∙◌, arith}
use Rattle.page_state.specs.declared.page.Touched.{Touched}
use Rattle.page_state.specs.declared.page.Touched.TheVariants.{Words}
use Rattle.page_state.specs.declared.span.FileSpan.{FileSpan}
use Rattle.page_state.specs.Spans.{span_of, new_words, new_lines}
use Rattle.page_state.specs.Page.{touched_lines}
use Rattle.page_state.specs.Laws.{CountsNew}
use Rattle.page_state.proofs.Counted.{inside_law}

-- the last byte of the first page and the first of the second
abbrev pub two_bytes : FileSpan
two_bytes = span_of 0 8192 4095 (170 ∷ 187 ∷ [])

counts_two : CountsNew two_bytes 2 4095 4097
counts_two = inside_law two_bytes 2 (omega arith) (omega arith) (omega arith) (omega arith)

pub two_words : (pages : ℕ) → pages ≡ 2 → new_words two_bytes pages ≡ 2
two_words pages two = ap (λ (n : ℕ). new_words two_bytes n) two ∙ counts_two.words

two_lines : (touched : Touched) (pages : ℕ) → touched ≡ Words two_bytes → pages ≡ 2 → touched_lines touched pages ≡ 2
two_lines touched pages is two = ap (λ (t : Touched). touched_lines t pages) is ∙ ap (λ (n : ℕ). new_lines two_bytes n) two ∙ counts_two.lines

pub two_words_fit : (pages spare : ℕ) → pages ≡ 2 → 2 ≤ spare → new_words two_bytes pages ≤ spare
two_words_fit pages spare two room = omega (arith, two_words pages two, room)

pub two_lines_fit : (touched : Touched) (stored pages had spare : ℕ) → touched ≡ Words two_bytes → stored ≡ 2 → pages ≡ 2 → had ≤ spare + new_words two_bytes stored → 4 ≤ had → touched_lines touched pages ≤ spare
two_lines_fit touched stored pages had spare is two too room enough = omega (arith, two_words stored two, two_lines touched pages is too, room, enough)

-- what room there is once they are stored and flushed
pub room_after_two : (touched : Touched) (stored pages had between spare most : ℕ) → touched ≡ Words two_bytes → stored ≡ 2 → pages ≡ 2 → had ≤ between + new_words two_bytes stored → between ≤ spare + touched_lines touched pages → most + 4 ≤ had → most ≤ spare
room_after_two touched stored pages had between spare most is two too room flushed enough = omega (arith, two_words stored two, two_lines touched pages is too, room, flushed, enough)

-- How many words and lines have new bytes, by the ends of the bytes that are new.
use Rattle.std.proofs.Common.{◌≡◌, ℕ, zero, suc, ◌+◌, ◌-◌, ◌*◌, ◌/◌, ◌<◌, ◌≤◌, inl, inr, true, false, min, refl, ◌∙◌, ap, arith}
use Rattle.std.proofs.lemmas.Bool.{cases_lt}
use Rattle.page_state.specs.declared.span.FileSpan.{FileSpan}
use Rattle.page_state.specs.Spans.{has_new, new_pieces, new_words, new_lines}
use Rattle.page_state.specs.Laws.{InsideLaw, BeyondLaw}
use Rattle.page_state.proofs.Pieces.{one_if, pieces_none, pieces_more, pieces_then}
use Rattle.page_state.proofs.SpanLaws.{has_new-in_range, has_new-zeros, has_new-outside}

-- none of them has a new byte, or all have
none_new : (span : FileSpan) (at size count : ℕ) → ((k : ℕ) → k < count → has_new span (at + size * k) size ≡ false) → new_pieces span at size count ≡ 0
none_new span at size zero none = pieces_none span at size
none_new span at size (suc count) none =
    let last : suc count ≡ count + 1 = omega arith in
    let more = ap (λ (n : ℕ). new_pieces span at size n) last ∙ pieces_more span at size count in
    let nothing : one_if (has_new span (at + size * count) size) ≡ 0 = ap one_if (none count (omega arith)) in
    let before = none_new span at size count (λ k below. none k (omega (arith, below))) in
    more ∙ omega (arith, nothing, before)

all_new : (span : FileSpan) (at size count : ℕ) → ((k : ℕ) → k < count → has_new span (at + size * k) size ≡ true) → new_pieces span at size count ≡ count
all_new span at size zero all = pieces_none span at size
all_new span at size (suc count) all =
    let last : suc count ≡ count + 1 = omega arith in
    let more = ap (λ (n : ℕ). new_pieces span at size n) last ∙ pieces_more span at size count in
    let one : one_if (has_new span (at + size * count) size) ≡ 1 = ap one_if (all count (omega arith)) in
    let before = all_new span at size count (λ k below. all k (omega (arith, below))) in
    more ∙ omega (arith, one, before)

-- of pieces in a row those from one to before another alone have new bytes
pieces_between : (span : FileSpan) (at size front middle back : ℕ) → ((k : ℕ) → k < front → has_new span (at + size * k) size ≡ false) → ((k : ℕ) → k < middle → has_new span (at + size * (front + k)) size ≡ true) → ((k : ℕ) → k < back → has_new span (at + size * (front + middle + k)) size ≡ false)
    → new_pieces span at size (front + middle + back) ≡ middle
pieces_between span at size front middle back before within after =
    let first = pieces_then span at size (front + middle) back in
    let second = pieces_then span at size front middle in
    let begin = none_new span at size front before in
    let most = all_new span (at + size * front) size middle (λ k below. let same : at + size * front + size * k ≡ at + size * (front + k) = omega arith in ap (λ (b : ℕ). has_new span b size) same ∙ within k below) in
    let end = none_new span (at + size * (front + middle)) size back (λ k below. let same : at + size * (front + middle) + size * k ≡ at + size * (front + middle + k) = omega arith in ap (λ (b : ℕ). has_new span b size) same ∙ after k below) in
    first ∙ omega (arith, second, begin, most, end)

-- where the new bytes of the pages are those of the range alone
inside_words : (span : FileSpan) (pages : ℕ) → 4096 * span.first ≤ span.offset → 0 < span.length → span.offset + span.length ≤ 4096 * (span.first + pages) → 4096 * (span.first + pages) ≤ span.zero_from → new_words span pages ≡ (span.offset + span.length + 7) / 8 - span.offset / 8
inside_words span pages low long high kept =
    let end = span.offset + span.length in
    let front = span.offset / 8 - 512 * span.first in
    let middle = (end + 7) / 8 - span.offset / 8 in
    let back = 512 * pages - front - middle in
    let all : 512 * pages ≡ front + middle + back = omega (arith, low, long, high) in
    ap (λ (n : ℕ). new_pieces span (4096 * span.first) 8 n) all
    ∙ pieces_between span (4096 * span.first) 8 front middle back
    (λ k below. has_new-outside span (4096 * span.first + 8 * k) 8 (λ some before after. omega (arith, below, low, after)) (omega (arith, below, low, long, high, kept)))
    (λ k below. has_new-in_range span (4096 * span.first + 8 * (front + k)) 8 (omega arith) long (omega (arith, below, low, long)) (omega (arith, below, low, long)))
    (λ k below. has_new-outside span (4096 * span.first + 8 * (front + middle + k)) 8 (λ some before after. omega (arith, below, low, long, before)) (omega (arith, below, low, long, high, kept)))

inside_lines : (span : FileSpan) (pages : ℕ) → 4096 * span.first ≤ span.offset → 0 < span.length → span.offset + span.length ≤ 4096 * (span.first + pages) → 4096 * (span.first + pages) ≤ span.zero_from → new_lines span pages ≡ (span.offset + span.length + 63) / 64 - span.offset / 64
inside_lines span pages low long high kept =
    let end = span.offset + span.length in
    let front = span.offset / 64 - 64 * span.first in
    let middle = (end + 63) / 64 - span.offset / 64 in
    let back = 64 * pages - front - middle in
    let all : 64 * pages ≡ front + middle + back = omega (arith, low, long, high) in
    ap (λ (n : ℕ). new_pieces span (4096 * span.first) 64 n) all
    ∙ pieces_between span (4096 * span.first) 64 front middle back
    (λ k below. has_new-outside span (4096 * span.first + 64 * k) 64 (λ some before after. omega (arith, below, low, after)) (omega (arith, below, low, long, high, kept)))
    (λ k below. has_new-in_range span (4096 * span.first + 64 * (front + k)) 64 (omega arith) long (omega (arith, below, low, long)) (omega (arith, below, low, long)))
    (λ k below. has_new-outside span (4096 * span.first + 64 * (front + middle + k)) 64 (λ some before after. omega (arith, below, low, long, before)) (omega (arith, below, low, long, high, kept)))

pub inside_law : InsideLaw
inside_law = λ span pages low long high kept. record { words = inside_words span pages low long high kept; lines = inside_lines span pages low long high kept }

-- where they are all from one on
beyond_word : (span : FileSpan) (from at size : ℕ) → 0 < size → from ≡ min span.offset span.zero_from → span.zero_from ≤ span.offset + span.length → from < at + size → has_new span at size ≡ true
beyond_word span from at size some is meets low = elim (cases_lt span.zero_from (at + size)) [
  | inl zeros ↦ has_new-zeros span at size some zeros
  | inr kept ↦ has_new-in_range span at size some (omega (arith, is, meets, low, kept)) (omega (arith, is, meets, low, kept, some)) (omega (arith, is, low, kept))
]

before_word : (span : FileSpan) (from at size : ℕ) → from ≡ min span.offset span.zero_from → at + size ≤ from → has_new span at size ≡ false
before_word span from at size is high = has_new-outside span at size (λ some before after. omega (arith, is, high, after)) (omega (arith, is, high))

beyond_words : (span : FileSpan) (pages from : ℕ) → from ≡ min span.offset span.zero_from → span.zero_from ≤ span.offset + span.length → 4096 * span.first ≤ from → from ≤ 4096 * (span.first + pages) → new_words span pages ≡ 512 * (span.first + pages) - from / 8
beyond_words span pages from is meets low high =
    let front = from / 8 - 512 * span.first in
    let middle = 512 * (span.first + pages) - from / 8 in
    let all : 512 * pages ≡ front + middle + 0 = omega (arith, low, high) in
    ap (λ (n : ℕ). new_pieces span (4096 * span.first) 8 n) all
    ∙ pieces_between span (4096 * span.first) 8 front middle 0
    (λ k below. before_word span from (4096 * span.first + 8 * k) 8 is (omega (arith, below, low)))
    (λ k below. beyond_word span from (4096 * span.first + 8 * (front + k)) 8 (omega arith) is meets (omega (arith, low)))
    (λ k below. absurd (omega (arith, below)))

beyond_lines : (span : FileSpan) (pages from : ℕ) → from ≡ min span.offset span.zero_from → span.zero_from ≤ span.offset + span.length → 4096 * span.first ≤ from → from ≤ 4096 * (span.first + pages) → new_lines span pages ≡ 64 * (span.first + pages) - from / 64
beyond_lines span pages from is meets low high =
    let front = from / 64 - 64 * span.first in
    let middle = 64 * (span.first + pages) - from / 64 in
    let all : 64 * pages ≡ front + middle + 0 = omega (arith, low, high) in
    ap (λ (n : ℕ). new_pieces span (4096 * span.first) 64 n) all
    ∙ pieces_between span (4096 * span.first) 64 front middle 0
    (λ k below. before_word span from (4096 * span.first + 64 * k) 64 is (omega (arith, below, low)))
    (λ k below. beyond_word span from (4096 * span.first + 64 * (front + k)) 64 (omega arith) is meets (omega (arith, low)))
    (λ k below. absurd (omega (arith, below)))

pub beyond_law : BeyondLaw
beyond_law = λ span pages meets low high.
    let end : 4096 * (span.first + pages) ≡ 4096 * (span.first + pages) = refl in
    let words = beyond_words span pages (min span.offset span.zero_from) refl meets low high in
    let lines = beyond_lines span pages (min span.offset span.zero_from) refl meets low high in
    record { words = omega (arith, words); lines = omega (arith, lines) }

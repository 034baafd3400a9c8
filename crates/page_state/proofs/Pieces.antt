-- How many words and lines have new bytes.
use Rattle.std.proofs.Common.{◌≡◌, inl, inr, ℕ, zero, suc, ◌+◌, ◌-◌, ◌*◌, ◌/◌, ◌<◌, ◌≤◌, Bool, true, false, cond, List, [], ◌∷◌, refl, ◌∙◌, ap, subst, arith}
use Rattle.std.specs.List.{range_with_len, sum_by}
use Rattle.std.proofs.lemmas.Bool.{cases_eq}
use Rattle.std.proofs.Math.Nat.{mul-le-mul_left}
use Rattle.std.proofs.lemmas.List.Sums.{sum_by-append}
use Rattle.page_state.specs.declared.span.FileSpan.{FileSpan}
use Rattle.page_state.specs.Spans.{has_new, new_pieces, new_words, new_lines}
use Rattle.page_state.proofs.SpanLaws.{has_new-zeros, has_new-within}
use Rattle.page_state.proofs.Steps.{range_more}

abbrev pub one_if : Bool → ℕ
one_if b = cond b 1 0

pub pieces_more : (span : FileSpan) (at size count : ℕ) → new_pieces span at size (count + 1) ≡ new_pieces span at size count + one_if (has_new span (at + size * count) size)
unfolding new_pieces
pieces_more span at size count =
    let one : ℕ → ℕ = λ piece. one_if (has_new span (at + size * piece) size) in
    let plain : sum_by one (count ∷ []) ≡ one count = omega arith in
    ap (λ (l : List ℕ). sum_by one l) (range_more count) ∙ sum_by-append one (range_with_len 0 count) (count ∷ []) ∙ ap (λ (n : ℕ). sum_by one (range_with_len 0 count) + n) plain

pub pieces_none : (span : FileSpan) (at size : ℕ) → new_pieces span at size 0 ≡ 0
unfolding new_pieces
pieces_none span at size = refl

-- so many, and then so many more
pub pieces_then : (span : FileSpan) (at size first count : ℕ) → new_pieces span at size (first + count) ≡ new_pieces span at size first + new_pieces span (at + size * first) size count
pieces_then span at size first zero =
    let same : first + zero ≡ first = omega arith in
    let none = pieces_none span (at + size * first) size in
    ap (λ (n : ℕ). new_pieces span at size n) same ∙ omega (arith, none)
pieces_then span at size first (suc count) =
    let next : first + suc count ≡ first + count + 1 = omega arith in
    let place : at + size * (first + count) ≡ at + size * first + size * count = omega arith in
    let more = pieces_more span at size (first + count) in
    let rest = pieces_more span (at + size * first) size count in
    let here = ap (λ (b : ℕ). one_if (has_new span b size)) place in
    let before = pieces_then span at size first count in
    let last : suc count ≡ count + 1 = omega arith in
    ap (λ (n : ℕ). new_pieces span at size n) next ∙ more ∙ omega (arith, here, before, rest, ap (λ (n : ℕ). new_pieces span (at + size * first) size n) last)

-- where there is one, there are some
pub pieces_some : (span : FileSpan) (at size count piece : ℕ) → piece < count → has_new span (at + size * piece) size ≡ true → 0 < new_pieces span at size count
pieces_some span at size zero piece below new = absurd (omega (arith, below))
pieces_some span at size (suc count) piece below new =
    let last : suc count ≡ count + 1 = omega arith in
    let more = ap (λ (n : ℕ). new_pieces span at size n) last ∙ pieces_more span at size count in
    elim (cases_eq piece count) [
      | inl here ↦
          let one : one_if (has_new span (at + size * count) size) ≡ 1 = ap one_if (subst (λ (k : ℕ). has_new span (at + size * k) size ≡ true) here new) in
          omega (arith, more, one)
      | inr other ↦ let before = pieces_some span at size count piece (omega (arith, below, other)) new in omega (arith, more, before)
    ]

pub pieces_where : (span : FileSpan) (at size count : ℕ) → 0 < new_pieces span at size count → (piece : ℕ) × (piece < count) × (has_new span (at + size * piece) size ≡ true)
pieces_where span at size zero some = absurd (omega (arith, some, pieces_none span at size))
pieces_where span at size (suc count) some =
    let last : suc count ≡ count + 1 = omega arith in
    let more = ap (λ (n : ℕ). new_pieces span at size n) last ∙ pieces_more span at size count in
    elim (has_new span (at + size * count) size) as (λ b. has_new span (at + size * count) size ≡ b → (piece : ℕ) × (piece < suc count) × (has_new span (at + size * piece) size ≡ true)) [
      | true ↦ λ new. (count, omega arith, new)
      | false ↦ λ none.
          let nothing : one_if (has_new span (at + size * count) size) ≡ 0 = ap one_if none in
          let found = pieces_where span at size count (omega (arith, some, more, nothing)) in
          let below = found.1 in
          (found.0, omega (arith, below), found.2)
    ] refl

-- more pieces have as many at least
pub pieces_most : (span : FileSpan) (at size first all : ℕ) → first ≤ all → new_pieces span at size first ≤ new_pieces span at size all
pieces_most span at size first all most =
    let rest : first + (all - first) ≡ all = omega arith in
    let both = pieces_then span at size first (all - first) in
    let whole = ap (λ (n : ℕ). new_pieces span at size n) rest in
    omega (arith, both, whole)

-- one more page: its pieces, of which there are `each`, begin at its first byte
pub pages_of_pieces : (span : FileSpan) (first size each index : ℕ) → size * each ≡ 4096 → new_pieces span (4096 * first) size (each * (index + 1)) ≡ new_pieces span (4096 * first) size (each * index) + new_pieces span (4096 * (first + index)) size each
pages_of_pieces span first size each index whole =
    let next : each * (index + 1) ≡ each * index + each = omega arith in
    let product : size * (each * index) ≡ size * each * index = omega arith in
    let pages : size * each * index ≡ 4096 * index = ap (λ (n : ℕ). n * index) whole in
    let place : 4096 * first + size * (each * index) ≡ 4096 * (first + index) = omega (arith, product, pages) in
    ap (λ (n : ℕ). new_pieces span (4096 * first) size n) next ∙ pieces_then span (4096 * first) size (each * index) each
    ∙ ap (λ (b : ℕ). new_pieces span (4096 * first) size (each * index) + new_pieces span b size each) place

-- there is room for one more page
pub page_room : (span : FileSpan) (size each index pages spare now : ℕ) → size * each ≡ 4096 → index < pages → new_pieces span (4096 * span.first) size (each * pages) ≤ spare → spare ≤ now + new_pieces span (4096 * span.first) size (each * index) → new_pieces span (4096 * (span.first + index)) size each ≤ now
page_room span size each index pages spare now whole inside room taken =
    let more = pages_of_pieces span span.first size each index whole in
    let product : each * (index + 1) ≤ each * pages = mul-le-mul_left each (omega (arith, inside)) in
    let most = pieces_most span (4096 * span.first) size (each * (index + 1)) (each * pages) product in
    omega (arith, room, taken, more, most)

-- where a word has a new byte, a line has
pub some_lines : (span : FileSpan) (pages : ℕ) → 0 < new_words span pages → 0 < new_lines span pages
some_lines span pages some =
    let found = pieces_where span (4096 * span.first) 8 (512 * pages) some in
    let below = found.1 in
    let start : 4096 * span.first + 64 * (found.0 / 8) ≤ 4096 * span.first + 8 * found.0 = omega arith in
    let end : 4096 * span.first + 8 * found.0 + 8 ≤ 4096 * span.first + 64 * (found.0 / 8) + 64 = omega arith in
    pieces_some span (4096 * span.first) 64 (64 * pages) (found.0 / 8) (omega (arith, below))
    (has_new-within span (4096 * span.first + 64 * (found.0 / 8)) 64 (4096 * span.first + 8 * found.0) 8 start end found.2)

-- where all bytes are new, all pieces have one
pub all_pieces : (span : FileSpan) (at size count : ℕ) → span.zero_from ≡ 0 → 0 < size → new_pieces span at size count ≡ count
all_pieces span at size zero whole some = pieces_none span at size
all_pieces span at size (suc count) whole some =
    let last : suc count ≡ count + 1 = omega arith in
    let more = ap (λ (n : ℕ). new_pieces span at size n) last ∙ pieces_more span at size count in
    let new = has_new-zeros span (at + size * count) size some (omega (arith, whole, some)) in
    let one : one_if (has_new span (at + size * count) size) ≡ 1 = ap one_if new in
    let before = all_pieces span at size count whole some in
    more ∙ omega (arith, one, before)

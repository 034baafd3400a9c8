-- Flushes of lines with new bytes, one after another.
use Rattle.std.proofs.Common.{◌≡◌, ◌⊎◌, inl, inr, ℕ, ◌+◌, ◌*◌, ◌/◌, ◌<◌, ◌≤◌, ◌-◌, Bool, true, false, cond, List, [], ◌∷◌, slice_index, refl, sym, ◌∙◌, ap, subst, arith, add-zero}
use Rattle.std.specs.Prelude.{Option, Some}
use Rattle.std.specs.List.{flat_map, range_with_len}
use Rattle.std.proofs.lemmas.Bool.{cases_eq, cases_lt, cond-true}
use Rattle.pm_trait.specs.declared.event.Event.{Event}
use Rattle.pm_trait.specs.declared.event.Event.TheVariants.{Flush}
use Rattle.pm_trait.specs.Device.{IsFlushed}
use Rattle.pm_trait.specs.DeviceView.{DeviceView}
use Rattle.pm_trait.proofs.DeviceLaws.{flushed_stays}
use Rattle.layout.specs.Geometry.{page_word_of}
use Rattle.fence_token.specs.Ticket.{flushes_of}
use Rattle.fence_token.specs.Flushes.{Flushes, FlushesLines}
use Rattle.fence_token.proofs.StoredLaws.{flushes_as}
use Rattle.page_state.specs.declared.span.FileSpan.{FileSpan}
use Rattle.page_state.specs.Spans.{has_new, new_pieces}
use Rattle.page_state.specs.Page.{OfSomeBelow, IsNewPlace, IsNewWord}
use Rattle.page_state.specs.Events.{flush_of_line, new_flushes}
use Rattle.page_state.proofs.Lines.{line_alone}
use Rattle.page_state.proofs.Pieces.{one_if, pieces_more, pieces_most, pages_of_pieces}
use Rattle.page_state.proofs.SpanLaws.{has_new-within}
use Rattle.page_state.proofs.Steps.{flushes_one_more}

-- ---- one line

pub line_flushed : {a b : DeviceView} (new : Bool) (volume_pages page line first last : ℕ) → new ≡ true → first ≡ page_word_of volume_pages page (8 * line) → last ≡ page_word_of volume_pages page (8 * line + 8 - 1)
    → FlushesLines a b (first / 8) (last / 8 - first / 8 + 1) → Flushes a b (cond new (Flush (page_word_of volume_pages page (8 * line) / 8) ∷ []) []) (one_if new)
line_flushed new volume_pages page line first last is at_first at_last lines =
    let alone = line_alone volume_pages page line first last at_first at_last in
    let one : one_if new ≡ 1 = ap one_if is in
    flushes_as (cond new (Flush (page_word_of volume_pages page (8 * line) / 8) ∷ []) []) (one_if new)
    (ap (λ (n : ℕ). flushes_of (first / 8) n) alone
    ∙ ap (λ (at : ℕ). Flush at ∷ []) (add-zero (first / 8))
    ∙ ap (λ (word : ℕ). Flush (word / 8) ∷ []) at_first
    ∙ sym (cond-true {A = List Event} new (Flush (page_word_of volume_pages page (8 * line) / 8) ∷ []) [] is))
    (omega (arith, alone, one)) lines.flushes

-- ---- one page

pub line_room : (span : FileSpan) (offset line spare now : ℕ) → line < 64 → new_pieces span (4096 * offset) 64 64 ≤ spare → spare ≤ now + new_pieces span (4096 * offset) 64 line → has_new span (4096 * offset + 64 * line) 64 ≡ true → 1 ≤ now
line_room span offset line spare now inside room taken has =
    let more = pieces_more span (4096 * offset) 64 line in
    let one : one_if (has_new span (4096 * offset + 64 * line) 64) ≡ 1 = ap one_if has in
    let most = pieces_most span (4096 * offset) 64 (line + 1) 64 (omega (arith, inside)) in
    omega (arith, room, taken, more, one, most)

pub one_more_line : {a b c : DeviceView} (span : FileSpan) (volume_pages offset page line : ℕ) → Flushes a b (flat_map (flush_of_line span volume_pages offset page) (range_with_len 0 line)) (new_pieces span (4096 * offset) 64 line)
    → Flushes b c (flush_of_line span volume_pages offset page line) (one_if (has_new span (4096 * offset + 64 * line) 64))
    → Flushes a c (flat_map (flush_of_line span volume_pages offset page) (range_with_len 0 (line + 1))) (new_pieces span (4096 * offset) 64 (line + 1))
one_more_line span volume_pages offset page line so_far step =
    flushes_one_more (flush_of_line span volume_pages offset page) line (new_pieces span (4096 * offset) 64 (line + 1)) (let more = pieces_more span (4096 * offset) 64 line in omega (arith, more)) so_far step

-- the ticket after one more line is of the last flush, where there was one
pub line_ticket : (span : FileSpan) (offset line first now later : ℕ) (start before after : Option ℕ) → later ≡ now
    → ((start ≡ Some first) ⊎ (0 < new_pieces span (4096 * offset) 64 line) → before ≡ Some now) → after ≡ cond (has_new span (4096 * offset + 64 * line) 64) (Some later) before
    → (start ≡ Some first) ⊎ (0 < new_pieces span (4096 * offset) 64 (line + 1)) → after ≡ Some later
line_ticket span offset line first now later start before after same so_far is told =
    let new = has_new span (4096 * offset + 64 * line) 64 in
    let more = pieces_more span (4096 * offset) 64 line in
    elim new as (λ b. new ≡ b → after ≡ Some later) [
      | true ↦ λ has. is ∙ ap (λ (b : Bool). cond b (Some later) before) has
      | false ↦ λ none.
          let nothing : one_if new ≡ 0 = ap one_if none in
          let earlier : (start ≡ Some first) ⊎ (0 < new_pieces span (4096 * offset) 64 line) = elim told [ inl kept ↦ inl kept | inr some ↦ inr (omega (arith, some, more, nothing)) ] in
          is ∙ ap (λ (b : Bool). cond b (Some later) before) none ∙ so_far earlier ∙ ap (λ (n : ℕ). Some n) (sym same)
    ] refl

-- the new words of one more line are flushed
pub line_words : {b c : DeviceView} {events : List Event} {m : ℕ} (span : FileSpan) (volume_pages offset page line : ℕ) → Flushes b c events m
    → ((word : ℕ) → OfSomeBelow (8 * line) (IsNewPlace span volume_pages offset page) word → IsFlushed b.trail word)
    → (has_new span (4096 * offset + 64 * line) 64 ≡ true → (place : ℕ) → place / 8 ≡ line → IsFlushed c.trail (page_word_of volume_pages page place))
    → (word : ℕ) → OfSomeBelow (8 * (line + 1)) (IsNewPlace span volume_pages offset page) word → IsFlushed c.trail word
line_words {c = c} span volume_pages offset page line step so_far here word is = elim (cases_lt is.index (8 * line)) [
  | inl before ↦ flushed_stays word step.stores_none (λ none. none) (so_far word (record { index = is.index; below = before; is = is.is }))
  | inr past ↦
      let below = is.below in
      let of_line : is.index / 8 ≡ line = omega (arith, past, below) in
      let low : 4096 * offset + 64 * line ≤ 4096 * offset + 8 * is.index = omega (arith, past) in
      let high : 4096 * offset + 8 * is.index + 8 ≤ 4096 * offset + 64 * line + 64 = omega (arith, below) in
      subst (λ (w : ℕ). IsFlushed c.trail w) (sym is.is.at) (here (has_new-within span (4096 * offset + 64 * line) 64 (4096 * offset + 8 * is.index) 8 low high is.is.has) is.index of_line)
]

-- ---- page by page

pub one_more_page_flushed : {a b c : DeviceView} (span : FileSpan) (volume_pages count offset : ℕ) (pages : List ℕ) → offset ≡ span.first + count
    → Flushes a b (flat_map (λ index. new_flushes span volume_pages (span.first + index) (slice_index pages index)) (range_with_len 0 count)) (new_pieces span (4096 * span.first) 64 (64 * count))
    → Flushes b c (new_flushes span volume_pages offset (slice_index pages count)) (new_pieces span (4096 * offset) 64 64)
    → Flushes a c (flat_map (λ index. new_flushes span volume_pages (span.first + index) (slice_index pages index)) (range_with_len 0 (count + 1))) (new_pieces span (4096 * span.first) 64 (64 * (count + 1)))
one_more_page_flushed span volume_pages count offset pages at so_far step =
    flushes_one_more (λ index. new_flushes span volume_pages (span.first + index) (slice_index pages index)) count (new_pieces span (4096 * span.first) 64 (64 * (count + 1)))
    (let more = pages_of_pieces span span.first 64 64 count refl in let here = ap (λ (o : ℕ). new_pieces span (4096 * o) 64 64) at in omega (arith, more, here))
    so_far
    (flushes_as (new_flushes span volume_pages (span.first + count) (slice_index pages count)) (new_pieces span (4096 * offset) 64 64) (ap (λ (o : ℕ). new_flushes span volume_pages o (slice_index pages count)) at) (omega arith) step)

pub page_ticket : (span : FileSpan) (count offset now later : ℕ) (before after : Option ℕ) → offset ≡ span.first + count
    → (0 < new_pieces span (4096 * span.first) 64 (64 * count) → before ≡ Some now)
    → ((before ≡ Some now) ⊎ (0 < new_pieces span (4096 * offset) 64 64) → after ≡ Some later)
    → 0 < new_pieces span (4096 * span.first) 64 (64 * (count + 1)) → after ≡ Some later
page_ticket span count offset now later before after at so_far step some =
    let more = pages_of_pieces span span.first 64 64 count refl in
    let here = ap (λ (o : ℕ). new_pieces span (4096 * o) 64 64) at in
    elim (cases_lt 0 (new_pieces span (4096 * span.first) 64 (64 * count))) [
      | inl earlier ↦ step (inl (so_far earlier))
      | inr none ↦ step (inr (omega (arith, some, more, here, none)))
    ]

pub page_words : {b c : DeviceView} {events : List Event} {m : ℕ} (span : FileSpan) (volume_pages count offset : ℕ) (pages : List ℕ) → offset ≡ span.first + count → Flushes b c events m
    → ((word : ℕ) → OfSomeBelow count (λ index. IsNewWord span volume_pages (span.first + index) (slice_index pages index)) word → IsFlushed b.trail word)
    → ((word : ℕ) → IsNewWord span volume_pages offset (slice_index pages count) word → IsFlushed c.trail word)
    → (word : ℕ) → OfSomeBelow (count + 1) (λ index. IsNewWord span volume_pages (span.first + index) (slice_index pages index)) word → IsFlushed c.trail word
page_words span volume_pages count offset pages at step so_far here word is = elim (cases_eq is.index count) [
  | inl same ↦
      let at_count : IsNewWord span volume_pages (span.first + count) (slice_index pages count) word = subst (λ (k : ℕ). IsNewWord span volume_pages (span.first + k) (slice_index pages k) word) same is.is in
      here word (subst (λ (o : ℕ). IsNewWord span volume_pages o (slice_index pages count) word) (sym at) at_count)
  | inr other ↦
      let below = is.below in
      flushed_stays word step.stores_none (λ none. none) (so_far word (record { index = is.index; below = omega (arith, other, below); is = is.is }))
]

-- Which bytes, words and lines of a span have new bytes.
use Rattle.std.proofs.Common.{◌≡◌, ◌⊎◌, inl, inr, ℕ, zero, suc, ◌+◌, ◌-◌, ◌<◌, ◌≤◌, Bool, true, false, length, refl, sym, ◌∙◌, ap, subst, arith, add-zero}
use Rattle.std.specs.Prelude.{nat_le, nat_lt}
use Rattle.std.specs.List.{range_with_len, list_any}
use Rattle.std.proofs.lemmas.Bool.{leb-true, ltb-true, ltb-false, lt-ltb, le-leb, lt-leb, and_parts, and_from, and_left, and_right, or_cases, or_from, or_left, or_right}
use Rattle.std.proofs.lemmas.List.Folds.{list_any_at}
use Rattle.std.proofs.lemmas.List.FromFn.{get_or-range_with_len, length-range_with_len}
use Rattle.page_state.specs.declared.span.FileSpan.{FileSpan}
use Rattle.page_state.specs.Spans.{is_in_range, is_new, has_new}

-- ---- some of the numbers from one on

some_of : (p : ℕ → Bool) (at count i : ℕ) → i < count → p (at + i) ≡ true → list_any p (range_with_len at count) ≡ true
some_of p at count i below passes =
    list_any_at p (range_with_len at count) i 0 (omega (arith, below, length-range_with_len at count)) (ap p (get_or-range_with_len at count i 0 below) ∙ passes)

none_of : (p : ℕ → Bool) (at count : ℕ) → ((i : ℕ) → i < count → p (at + i) ≡ false) → list_any p (range_with_len at count) ≡ false
none_of p at zero fails = refl
none_of p at (suc count) fails =
    or_from (p at) (list_any p (range_with_len (at + 1) count))
    (ap p (sym (add-zero at)) ∙ fails 0 (omega arith))
    (none_of p (at + 1) count (λ i below. let same : at + 1 + i ≡ at + (i + 1) = omega arith in ap p same ∙ fails (i + 1) (omega (arith, below))))

where_of : (p : ℕ → Bool) (at count : ℕ) → list_any p (range_with_len at count) ≡ true → (i : ℕ) × (i < count) × (p (at + i) ≡ true)
where_of p at zero found = absurd cc
where_of p at (suc count) found = elim (or_cases (p at) (list_any p (range_with_len (at + 1) count)) found) [
  | inl here ↦ (0, omega arith, ap p (add-zero at) ∙ here)
  | inr later ↦
      let rest = where_of p (at + 1) count later in
      let below = rest.1 in
      let same : at + (rest.0 + 1) ≡ at + 1 + rest.0 = omega arith in
      (rest.0 + 1, omega (arith, below), ap p same ∙ rest.2)
]

-- ---- one byte

pub new-in_range : (span : FileSpan) (at : ℕ) → span.offset ≤ at → at < span.offset + span.length → is_new span at ≡ true
new-in_range span at low high =
    or_left (is_in_range span.offset span.length at) (nat_le span.zero_from at) (and_from (nat_le span.offset at) (nat_lt at (span.offset + span.length)) (le-leb span.offset at low) (lt-ltb at (span.offset + span.length) high))

pub new-zeros : (span : FileSpan) (at : ℕ) → span.zero_from ≤ at → is_new span at ≡ true
new-zeros span at low = or_right (is_in_range span.offset span.length at) (nat_le span.zero_from at) (le-leb span.zero_from at low)

pub not_in_range : (offset length at : ℕ) → (offset ≤ at → at < offset + length → ⊥) → is_in_range offset length at ≡ false
not_in_range offset length at outside =
    elim (nat_le offset at) as (λ b. nat_le offset at ≡ b → is_in_range offset length at ≡ false) [
      | true ↦ λ low. and_right (nat_le offset at) (nat_lt at (offset + length))
          (elim (nat_lt at (offset + length)) as (λ b. nat_lt at (offset + length) ≡ b → nat_lt at (offset + length) ≡ false) [
            | true ↦ λ high. absurd (outside (leb-true offset at low) (ltb-true at (offset + length) high))
            | false ↦ λ high. high
          ] refl)
      | false ↦ λ low. and_left (nat_le offset at) (nat_lt at (offset + length)) low
    ] refl

pub not_new : (span : FileSpan) (at : ℕ) → (span.offset ≤ at → at < span.offset + span.length → ⊥) → at < span.zero_from → is_new span at ≡ false
not_new span at outside before =
    or_from (is_in_range span.offset span.length at) (nat_le span.zero_from at) (not_in_range span.offset span.length at outside) (lt-leb span.zero_from at before)

-- a new byte lies in the range or from `zero_from` on
pub is_new-cases : (span : FileSpan) (at : ℕ) → is_new span at ≡ true → ((span.offset ≤ at) × (at < span.offset + span.length)) ⊎ (span.zero_from ≤ at)
is_new-cases span at new = elim (or_cases (is_in_range span.offset span.length at) (nat_le span.zero_from at) new) [
  | inl within ↦
      let parts = and_parts (nat_le span.offset at) (nat_lt at (span.offset + span.length)) within in
      inl (leb-true span.offset at parts.0, ltb-true at (span.offset + span.length) parts.1)
  | inr zeros ↦ inr (leb-true span.zero_from at zeros)
]

-- ---- some of a word's or a line's bytes

pub has_new-byte : (span : FileSpan) (at count i : ℕ) → i < count → is_new span (at + i) ≡ true → has_new span at count ≡ true
unfolding has_new
has_new-byte span at count i below new = some_of (is_new span) at count i below new

pub has_new-where : (span : FileSpan) (at count : ℕ) → has_new span at count ≡ true → (i : ℕ) × (i < count) × (is_new span (at + i) ≡ true)
unfolding has_new
has_new-where span at count new = where_of (is_new span) at count new

pub has_new-none : (span : FileSpan) (at count : ℕ) → ((i : ℕ) → i < count → is_new span (at + i) ≡ false) → has_new span at count ≡ false
unfolding has_new
has_new-none span at count none = none_of (is_new span) at count none

-- by the ends of the range
pub has_new-in_range : (span : FileSpan) (at count : ℕ) → 0 < count → 0 < span.length → at < span.offset + span.length → span.offset < at + count → has_new span at count ≡ true
has_new-in_range span at count some long high low =
    has_new-byte span at count (span.offset - at) (omega (arith, some, low)) (new-in_range span (at + (span.offset - at)) (omega arith) (omega (arith, long, high)))

pub has_new-zeros : (span : FileSpan) (at count : ℕ) → 0 < count → span.zero_from < at + count → has_new span at count ≡ true
has_new-zeros span at count some low =
    has_new-byte span at count (span.zero_from - at) (omega (arith, some, low)) (new-zeros span (at + (span.zero_from - at)) (omega arith))

pub has_new-outside : (span : FileSpan) (at count : ℕ) → (0 < span.length → at < span.offset + span.length → span.offset < at + count → ⊥) → at + count ≤ span.zero_from → has_new span at count ≡ false
has_new-outside span at count outside before =
    has_new-none span at count (λ i below. not_new span (at + i)
    (λ low high. outside (omega (arith, low, high)) (omega (arith, high)) (omega (arith, low, below))) (omega (arith, below, before)))

pub has_new-test : (span : FileSpan) (at count : ℕ) → 0 < count → (0 < span.length → at < span.offset + span.length → span.offset < at + count → ⊥) → nat_lt span.zero_from (at + count) ≡ has_new span at count
has_new-test span at count some outside =
    elim (nat_lt span.zero_from (at + count)) as (λ b. nat_lt span.zero_from (at + count) ≡ b → nat_lt span.zero_from (at + count) ≡ has_new span at count) [
      | true ↦ λ low. low ∙ sym (has_new-zeros span at count some (ltb-true span.zero_from (at + count) low))
      | false ↦ λ high. high ∙ sym (has_new-outside span at count outside (ltb-false span.zero_from (at + count) high))
    ] refl

-- a word's new byte is one of its line's
pub has_new-within : (span : FileSpan) (at count within size : ℕ) → at ≤ within → within + size ≤ at + count → has_new span within size ≡ true → has_new span at count ≡ true
has_new-within span at count within size low high new =
    let found = has_new-where span within size new in
    let below = found.1 in
    let place = within - at + found.0 in
    let same : within + found.0 ≡ at + place = omega (arith, low) in
    has_new-byte span at count place (omega (arith, low, high, below)) (subst (λ (b : ℕ). is_new span b ≡ true) same found.2)

-- What the bytes of words become.
use Rattle.std.proofs.Common.{◌≡◌, ℕ, ◌+◌, ◌-◌, ◌*◌, ◌/◌, ◌%◌, ◌^◌, ◌<◌, ◌≤◌, Bool, true, false, cond, List, length, take, drop, replicate, slice_index, refl, sym, ◌∙◌, ap, subst, arith, zero-add, length-drop, length-take}
use Rattle.std.specs.Prelude.{nat_le, nat_lt, map}
use Rattle.std.specs.List.{range_with_len}
use Rattle.std.proofs.lemmas.Bool.{cond_both, le-leb, lt-ltb, and_from, or_parts, ltb-true, ltb-false}
use Rattle.std.proofs.lemmas.List.{get_or_past, get_or-take, get_or-drop, get_or-replicate}
use Rattle.std.proofs.lemmas.List.FromFn.{get_or-map-range_with_len, length-map-range_with_len, fill_by_all}
use Rattle.layout.specs.Geometry.{page_word_of}
use Rattle.layout.specs.Fields.{word, page_byte}
use Rattle.layout.specs.Name.{IsBytes, word_of, bytes_of_word}
use Rattle.layout.proofs.ByteLaws.{slice_index-bytes_of_word, byte-word_of}
use Rattle.page_state.specs.declared.span.FileSpan.{FileSpan}
use Rattle.page_state.specs.Spans.{is_in_range, is_new, has_new, byte_after, word_after, word_now}
use Rattle.page_state.specs.Events.{HaveWords, HaveBytes}
use Rattle.page_state.proofs.SpanLaws.{not_in_range, has_new-byte}

-- ---- one byte

byte_after_small : (span : FileSpan) (bytes : List ℕ) (at old : ℕ) → IsBytes bytes → old < 256 → byte_after span bytes at old < 256
byte_after_small span bytes at old small low =
    cond_both (is_in_range span.offset span.length at) (slice_index bytes (at - span.offset)) (cond (nat_le span.zero_from at) 0 old) (λ (b : ℕ). b < 256)
    (λ within. small (at - span.offset))
    (λ outside. cond_both (nat_le span.zero_from at) 0 old (λ (b : ℕ). b < 256) (λ zeros. omega arith) (λ kept. low))

-- one that isn't new stays
byte_after_kept : (span : FileSpan) (bytes : List ℕ) (at old : ℕ) → is_new span at ≡ false → byte_after span bytes at old ≡ old
byte_after_kept span bytes at old kept =
    let parts = or_parts (is_in_range span.offset span.length at) (nat_le span.zero_from at) kept in
    ap (λ (b : Bool). cond b (slice_index bytes (at - span.offset)) (cond (nat_le span.zero_from at) 0 old)) parts.0 ∙ ap (λ (b : Bool). cond b 0 old) parts.1

-- where all are new, it is no matter what it was
pub byte_after_any : (span : FileSpan) (bytes : List ℕ) (at old : ℕ) → span.zero_from ≡ 0 → byte_after span bytes at old ≡ byte_after span bytes at 0
byte_after_any span bytes at old whole =
    let zeros : nat_le span.zero_from at ≡ true = le-leb span.zero_from at (omega (arith, whole)) in
    let same : cond (nat_le span.zero_from at) 0 old ≡ cond (nat_le span.zero_from at) 0 0 = ap (λ (b : Bool). cond b 0 old) zeros ∙ sym (ap (λ (b : Bool). cond b 0 0) zeros) in
    ap (λ (n : ℕ). cond (is_in_range span.offset span.length at) (slice_index bytes (at - span.offset)) n) same

-- one of the range
byte_after_of_range : (span : FileSpan) (bytes : List ℕ) (at old : ℕ) → span.offset ≤ at → at < span.offset + span.length → byte_after span bytes at old ≡ slice_index bytes (at - span.offset)
byte_after_of_range span bytes at old low high =
    let within : is_in_range span.offset span.length at ≡ true = and_from (nat_le span.offset at) (nat_lt at (span.offset + span.length)) (le-leb span.offset at low) (lt-ltb at (span.offset + span.length) high) in
    ap (λ (b : Bool). cond b (slice_index bytes (at - span.offset)) (cond (nat_le span.zero_from at) 0 old)) within

-- one that becomes zero
byte_after_zero : (span : FileSpan) (bytes : List ℕ) (at old : ℕ) → (span.offset ≤ at → at < span.offset + span.length → ⊥) → span.zero_from ≤ at → byte_after span bytes at old ≡ 0
byte_after_zero span bytes at old outside low =
    ap (λ (b : Bool). cond b (slice_index bytes (at - span.offset)) (cond (nat_le span.zero_from at) 0 old)) (not_in_range span.offset span.length at outside)
    ∙ ap (λ (b : Bool). cond b 0 old) (le-leb span.zero_from at low)

-- ---- the bytes of a word

-- the range has all of them
pub word_of_range : (span : FileSpan) (bytes : List ℕ) (at old : ℕ) → length bytes ≡ span.length → span.offset ≤ at → at + 8 ≤ span.offset + span.length → word_of (take 8 (drop (at - span.offset) bytes)) ≡ word_after span bytes at old
unfolding word_after
word_of_range span bytes at old long low high =
    let place = at - span.offset in
    let part = drop place bytes in
    let rest = length-drop place bytes in
    let cut = length-take 8 part in
    let made : ℕ → ℕ = λ k. byte_after span bytes (at + k) (slice_index (bytes_of_word old) k) in
    ap word_of (fill_by_all made (take 8 part) 8 0 (omega (arith, cut, rest, long, low, high))
    (λ k few.
    let at_k : place + k ≡ at + k - span.offset = omega (arith, low) in
    get_or-take 8 part k 0 few ∙ get_or-drop place bytes k 0 ∙ ap (λ (i : ℕ). slice_index bytes i) at_k
    ∙ sym (byte_after_of_range span bytes (at + k) (slice_index (bytes_of_word old) k) (omega (arith, low)) (omega (arith, high, few)))))

zero_word : 0 ≡ word_of (replicate 8 0)
unfolding word_of
zero_word = refl

-- the range has none of them, and they become zero
pub word_of_zeros : (span : FileSpan) (bytes : List ℕ) (at old : ℕ) → ((0 < span.length) × (at < span.offset + span.length) × (span.offset < at + 8) → ⊥) → span.zero_from ≤ at → 0 ≡ word_after span bytes at old
unfolding word_after
word_of_zeros span bytes at old outside low =
    let made : ℕ → ℕ = λ k. byte_after span bytes (at + k) (slice_index (bytes_of_word old) k) in
    zero_word
    ∙ ap word_of (fill_by_all made (replicate 8 0) 8 0 refl
    (λ k few.
    get_or-replicate 8 k 0 0 few
    ∙ sym (byte_after_zero span bytes (at + k) (slice_index (bytes_of_word old) k) (λ after before. outside (omega (arith, after, before), omega (arith, before), omega (arith, after, few))) (omega (arith, low)))))

byte_of_old : (old k : ℕ) → k < 8 → slice_index (bytes_of_word old) k < 256
byte_of_old old k few = let is = slice_index-bytes_of_word old k few in omega (arith, is)

word_after_small : (span : FileSpan) (bytes : List ℕ) (at old : ℕ) → IsBytes bytes → IsBytes (map (λ place. byte_after span bytes (at + place) (slice_index (bytes_of_word old) place)) (range_with_len 0 8))
word_after_small span bytes at old small i =
    let made : ℕ → ℕ = λ place. byte_after span bytes (at + place) (slice_index (bytes_of_word old) place) in
    elim (nat_lt i 8) as (λ b. nat_lt i 8 ≡ b → slice_index (map made (range_with_len 0 8)) i < 256) [
      | true ↦ λ low.
          let few = ltb-true i 8 low in
          subst (λ (b : ℕ). b < 256) (sym (get_or-map-range_with_len made 0 8 i i 0 few (zero-add i))) (byte_after_small span bytes (at + i) (slice_index (bytes_of_word old) i) small (byte_of_old old i few))
      | false ↦ λ high.
          let none = get_or_past (map made (range_with_len 0 8)) i 0 (omega (arith, ltb-false i 8 high, length-map-range_with_len made 0 8)) in
          omega (arith, none)
    ] refl

word_after-byte : (span : FileSpan) (bytes : List ℕ) (at old k : ℕ) → IsBytes bytes → k < 8 → word_after span bytes at old / 256 ^ k % 256 ≡ byte_after span bytes (at + k) (old / 256 ^ k % 256)
unfolding word_after
word_after-byte span bytes at old k small few =
    let made : ℕ → ℕ = λ place. byte_after span bytes (at + place) (slice_index (bytes_of_word old) place) in
    byte-word_of (map made (range_with_len 0 8)) k (length-map-range_with_len made 0 8) (word_after_small span bytes at old small) few
    ∙ get_or-map-range_with_len made 0 8 k k 0 few (zero-add k)
    ∙ ap (λ (b : ℕ). byte_after span bytes (at + k) b) (slice_index-bytes_of_word old k few)

not_new_byte : (span : FileSpan) (at count k : ℕ) → has_new span at count ≡ false → k < count → is_new span (at + k) ≡ false
not_new_byte span at count k none below =
    elim (is_new span (at + k)) as (λ b. is_new span (at + k) ≡ b → is_new span (at + k) ≡ false) [
      | true ↦ λ new. let some = has_new-byte span at count k below new in absurd (cc (some, none))
      | false ↦ λ kept. kept
    ] refl

pub word_now-byte : (span : FileSpan) (bytes : List ℕ) (at old k : ℕ) → IsBytes bytes → k < 8 → word_now span bytes at old / 256 ^ k % 256 ≡ byte_after span bytes (at + k) (old / 256 ^ k % 256)
word_now-byte span bytes at old k small few =
    cond_both (has_new span at 8) (word_after span bytes at old) old (λ (w : ℕ). w / 256 ^ k % 256 ≡ byte_after span bytes (at + k) (old / 256 ^ k % 256))
    (λ new. word_after-byte span bytes at old k small few)
    (λ none. sym (byte_after_kept span bytes (at + k) (old / 256 ^ k % 256) (not_new_byte span at 8 k none few)))

-- where all bytes are new, it is no matter what the word was
pub word_after_any : (span : FileSpan) (bytes : List ℕ) (at old : ℕ) → span.zero_from ≡ 0 → word_after span bytes at old ≡ word_after span bytes at 0
unfolding word_after word_of
word_after_any span bytes at old whole =
    ap word_of (fill_by_all (λ place. byte_after span bytes (at + place) (slice_index (bytes_of_word 0) place)) (map (λ place. byte_after span bytes (at + place) (slice_index (bytes_of_word old) place)) (range_with_len 0 8)) 8 0
    (length-map-range_with_len (λ place. byte_after span bytes (at + place) (slice_index (bytes_of_word old) place)) 0 8)
    (λ k few.
    get_or-map-range_with_len (λ place. byte_after span bytes (at + place) (slice_index (bytes_of_word old) place)) 0 8 k k 0 few (zero-add k)
    ∙ byte_after_any span bytes (at + k) (slice_index (bytes_of_word old) k) whole
    ∙ sym (byte_after_any span bytes (at + k) (slice_index (bytes_of_word 0) k) whole)))

-- ---- the bytes of pages

-- words that are what they become have the bytes that they get
pub have_bytes : (span : FileSpan) (bytes : List ℕ) (volume_pages : ℕ) (pages old new : List ℕ) → IsBytes bytes → HaveWords span bytes volume_pages pages old new → HaveBytes volume_pages pages span bytes (page_byte volume_pages old) new
unfolding page_byte word
have_bytes span bytes volume_pages pages old new small have = record {
  each = λ index byte inside few.
      let page = slice_index pages index in
      let start = 4096 * (span.first + index) in
      let at : start + 8 * (byte / 8) + byte % 8 ≡ start + byte = omega arith in
      let was = slice_index old (page_word_of volume_pages page (byte / 8)) in
      ap (λ (w : ℕ). w / 256 ^ (byte % 8) % 256) ((have.each index inside).each (byte / 8) (omega (arith, few)))
      ∙ word_now-byte span bytes (start + 8 * (byte / 8)) was (byte % 8) small (omega arith)
      ∙ ap (λ (b : ℕ). byte_after span bytes b (was / 256 ^ (byte % 8) % 256)) at;
}

pub have_whole_bytes : (span : FileSpan) (bytes : List ℕ) (volume_pages : ℕ) (pages old new : List ℕ) → span.zero_from ≡ 0 → IsBytes bytes → HaveWords span bytes volume_pages pages old new → HaveBytes volume_pages pages span bytes (λ page byte. 0) new
have_whole_bytes span bytes volume_pages pages old new whole small have =
    let all = have_bytes span bytes volume_pages pages old new small have in
    record { each = λ index byte inside few. all.each index byte inside few ∙ byte_after_any span bytes (4096 * (span.first + index) + byte) (page_byte volume_pages old (slice_index pages index) byte) whole }

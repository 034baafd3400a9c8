-- New bytes of a file: which bytes, words and lines of its pages have them, and what these become.
use Rattle.std.specs.Prelude.{ℕ, ◌+◌, ◌-◌, ◌*◌, ◌^◌, ◌≤◌, length, Bool, ◌&&◌, ◌||◌, nat_le, nat_lt, if◌then◌else◌, List, slice_index, map}
use Rattle.std.specs.List.{range_with_len, list_any, count_by}
use Rattle.layout.specs.Name.{word_of, bytes_of_word}
use Rattle.page_state.specs.declared.span.FileSpan.{FileSpan}

-- the span of a range of these bytes, over pages from this offset on
abbrev pub span_of : ℕ → ℕ → ℕ → List ℕ → FileSpan
span_of first zero_from offset bytes = record { first = first; offset = offset; length = length bytes; zero_from = zero_from }

-- The range ends in a file of the greatest size, and so many pages do.
pub record IsWithinLimits (span : FileSpan) (pages : ℕ) : Type 0 where
  pub range : span.offset + span.length ≤ 2 ^ 40
  pub places : span.first + pages ≤ 2 ^ 28

-- byte `at` of the file is one of so many from `offset` on
abbrev pub is_in_range : ℕ → ℕ → ℕ → Bool
is_in_range offset length at = nat_le offset at && nat_lt at (offset + length)

-- it gets a new value: it lies in the range, or from `zero_from` on
abbrev pub is_new : FileSpan → ℕ → Bool
is_new span at = is_in_range span.offset span.length at || nat_le span.zero_from at

-- one of the `count` bytes from byte `at` on gets one
unfoldable pub has_new : FileSpan → ℕ → ℕ → Bool
has_new span at count = list_any (is_new span) (range_with_len at count)

-- how many of so many pieces of `size` bytes, one after another from byte `at` on, have such a byte
unfoldable pub new_pieces : FileSpan → ℕ → ℕ → ℕ → ℕ
unfolding has_new
new_pieces span at size count = count_by (λ piece. has_new span (at + size * piece) size) (range_with_len 0 count)

-- the words of so many pages that have a new byte, and the lines; the first page stands at the span's first offset
abbrev pub new_words : FileSpan → ℕ → ℕ
new_words span pages = new_pieces span (4096 * span.first) 8 (512 * pages)

abbrev pub new_lines : FileSpan → ℕ → ℕ
new_lines span pages = new_pieces span (4096 * span.first) 64 (64 * pages)

-- what byte `at` of the file becomes, from what it was: the range's, else 0 from `zero_from` on, else the same
abbrev pub byte_after : FileSpan → List ℕ → ℕ → ℕ → ℕ
byte_after span bytes at old = if is_in_range span.offset span.length at then slice_index bytes (at - span.offset) else if nat_le span.zero_from at then 0 else old

-- what the word becomes whose bytes are those from byte `at` on
unfoldable pub word_after : FileSpan → List ℕ → ℕ → ℕ → ℕ
unfolding word_of bytes_of_word
word_after span bytes at old = word_of (map (λ place. byte_after span bytes (at + place) (slice_index (bytes_of_word old) place)) (range_with_len 0 8))

-- and what it is then: a word without a new byte stays
abbrev pub word_now : FileSpan → List ℕ → ℕ → ℕ → ℕ
word_now span bytes at old = if has_new span at 8 then word_after span bytes at old else old

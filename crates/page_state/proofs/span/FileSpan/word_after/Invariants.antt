use Rattle.std.proofs.Common.{◌≡◌, ◌+◌, ◌<◌, ◌≤◌, length, ℕ, slice_index}
use Rattle.layout.specs.Name.{bytes_of_word}
use Rattle.page_state.specs.Spans.{byte_after}
use Rattle.page_state.proofs.span.FileSpan.word_after.Given as goal

abbrev pub invariant-loop-place : goal.invariant-loop-place
invariant-loop-place l = record {
  long : length l.parts ≡ 8;
  made : (k : ℕ) → k < l.place → slice_index l.parts k ≡ byte_after l.self l.bytes (l.at + k) (slice_index (bytes_of_word l.old) k);
  rest : (k : ℕ) → l.place ≤ k → slice_index l.parts k ≡ slice_index (bytes_of_word l.old) k;
}

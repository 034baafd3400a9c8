use Rattle.std.proofs.Common.{ℕ, ◌+◌, List, length, slice_index, ◌∙◌, ap, arith, w64}
use Rattle.std.specs.Int.{from_le_bytes}
use Rattle.std.proofs.lemmas.List.FromFn.{fill_by_all}
use Rattle.layout.specs.Name.{word_of, bytes_of_word}
use Rattle.page_state.specs.Spans.{byte_after, word_after}
use Rattle.page_state.proofs.span.FileSpan.word_after.Goals as goal

pub loop-place-init : goal.loop-place-init
unfolding bytes_of_word
loop-place-init c = record {
  long = ap length c.to_le_bytes-parts.ensures;
  made = λ k below. absurd (omega (arith, below));
  rest = λ k low. ap (λ (l : List ℕ). slice_index l k) c.to_le_bytes-parts.ensures;
}

pub returns : goal.returns
unfolding word_after word_of
returns c =
    let so_far = c.loop-place.invariant in
    c.from_le_bytes.ensures
    ∙ ap (λ (l : List ℕ). from_le_bytes w64 l)
    (fill_by_all (λ k. byte_after c.args.self.now c.args.bytes.now (c.args.at + k) (slice_index (bytes_of_word c.args.old) k)) c.loop-place.parts 8 0 so_far.long (λ k below. so_far.made k (omega (arith, below))))

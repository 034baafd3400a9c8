use Rattle.std.proofs.Common.{◌≡◌, ℕ, ◌+◌, ◌*◌, ◌<◌, slice_index}
use Rattle.std.specs.Prelude.{Some}
use Rattle.std.specs.List.{flat_map, range_with_len}
use Rattle.pm_trait.specs.Device.{IsFlushed}
use Rattle.fence_token.specs.Flushes.{Flushes}
use Rattle.page_state.specs.Spans.{new_pieces}
use Rattle.page_state.specs.Page.{OfSomeBelow, IsNewWord}
use Rattle.page_state.specs.Events.{new_flushes}
use Rattle.page_state.proofs.flushes.flush_words.Given as goal

abbrev pub invariant-loop-page : goal.invariant-loop-page
invariant-loop-page g l = record {
  offset : l.offset ≡ l.span.first + l.page-index;
  ticket : 0 < new_pieces l.span (4096 * l.span.first) 64 (64 * l.page-index) → l.ticket ≡ Some (g.P.Pm.view l.pm).fences;
  flushed : (word : ℕ) → OfSomeBelow l.page-index (λ index. IsNewWord l.span l.geometry.pages (l.span.first + index) (slice_index l.pages index)) word → IsFlushed (g.P.Pm.view l.pm).trail word;
  device : Flushes (g.P.Pm.view l.initial.pm) (g.P.Pm.view l.pm) (flat_map (λ index. new_flushes l.span l.geometry.pages (l.span.first + index) (slice_index l.pages index)) (range_with_len 0 l.page-index)) (new_pieces l.span (4096 * l.span.first) 64 (64 * l.page-index));
}

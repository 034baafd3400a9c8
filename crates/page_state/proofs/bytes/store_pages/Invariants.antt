use Rattle.std.proofs.Common.{◌≡◌, ℕ, ◌+◌, ◌*◌, ◌<◌, slice_index}
use Rattle.std.specs.List.{flat_map, range_with_len}
use Rattle.fence_token.specs.Stored.{StoresExactly}
use Rattle.page_state.specs.Spans.{new_pieces}
use Rattle.page_state.specs.Page.{OfSomeBelow, IsNewWord}
use Rattle.page_state.specs.Events.{new_stores, HasWords}
use Rattle.page_state.proofs.bytes.store_pages.Given as goal

abbrev pub invariant-loop-page : goal.invariant-loop-page
invariant-loop-page g l = record {
  offset : l.offset ≡ l.span.first + l.page-index;
  device : StoresExactly (OfSomeBelow l.page-index (λ index. IsNewWord l.span l.geometry.pages (l.span.first + index) (slice_index l.pages index))) (g.P.Pm.view l.initial.pm) (g.P.Pm.view l.pm)
      (flat_map (λ index. new_stores l.span l.bytes (g.P.Pm.view l.initial.pm).words l.geometry.pages (l.span.first + index) (slice_index l.pages index)) (range_with_len 0 l.page-index)) (new_pieces l.span (4096 * l.span.first) 8 (512 * l.page-index));
  words : (index : ℕ) → index < l.page-index → HasWords l.span l.bytes l.geometry.pages (l.span.first + index) (slice_index l.pages index) (g.P.Pm.view l.initial.pm).words (g.P.Pm.view l.pm).words;
}

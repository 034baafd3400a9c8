use Rattle.std.proofs.Common.{◌≡◌, ℕ, ◌+◌, ◌*◌, ◌<◌, slice_index}
use Rattle.std.specs.List.{flat_map, range_with_len}
use Rattle.fence_token.specs.Stored.{StoresExactly}
use Rattle.page_state.specs.Page.{OfSomeBelow, IsFilledWord, IsBytesPage}
use Rattle.page_state.specs.Events.{bytes_of_page, HasWords}
use Rattle.page_state.proofs.bytes.fill_with_bytes.Given as goal

abbrev pub invariant-loop-page : goal.invariant-loop-page
invariant-loop-page g l = record {
  offset : l.offset ≡ l.span.first + l.page-index;
  device : StoresExactly (OfSomeBelow l.page-index (λ index. IsFilledWord l.geometry.pages (slice_index l.pages index))) (g.P.Pm.view l.initial.pm) (g.P.Pm.view l.pm)
      (flat_map (λ index. bytes_of_page l.span l.bytes l.geometry.pages (l.span.first + index) (slice_index l.pages index)) (range_with_len 0 l.page-index)) (514 * l.page-index);
  words : (index : ℕ) → index < l.page-index → HasWords l.span l.bytes l.geometry.pages (l.span.first + index) (slice_index l.pages index) (g.P.Pm.view l.initial.pm).words (g.P.Pm.view l.pm).words;
  filled : (index : ℕ) → index < l.page-index → IsBytesPage l.geometry.pages (g.P.Pm.view l.pm).words (l.span.first + index) (slice_index l.pages index);
}

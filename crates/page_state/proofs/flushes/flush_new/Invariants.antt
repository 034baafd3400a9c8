use Rattle.std.proofs.Common.{◌≡◌, ◌⊎◌, ℕ, ◌*◌, ◌<◌}
use Rattle.std.specs.Prelude.{Some}
use Rattle.std.specs.List.{flat_map, range_with_len}
use Rattle.pm_trait.specs.Device.{IsFlushed}
use Rattle.fence_token.specs.Flushes.{Flushes}
use Rattle.page_state.specs.Spans.{new_pieces}
use Rattle.page_state.specs.Page.{OfSomeBelow, IsNewPlace}
use Rattle.page_state.specs.Events.{flush_of_line}
use Rattle.page_state.proofs.flushes.flush_new.Given as goal

abbrev pub invariant-loop-line : goal.invariant-loop-line
invariant-loop-line g l = record {
  ticket : (l.fn.ticket ≡ Some (g.P.Pm.view l.initial.pm).fences) ⊎ (0 < new_pieces l.span (4096 * l.offset) 64 l.line) → l.ticket ≡ Some (g.P.Pm.view l.pm).fences;
  flushed : (word : ℕ) → OfSomeBelow (8 * l.line) (IsNewPlace l.span l.geometry.pages l.offset l.page) word → IsFlushed (g.P.Pm.view l.pm).trail word;
  device : Flushes (g.P.Pm.view l.initial.pm) (g.P.Pm.view l.pm) (flat_map (flush_of_line l.span l.geometry.pages l.offset l.page) (range_with_len 0 l.line)) (new_pieces l.span (4096 * l.offset) 64 l.line);
}

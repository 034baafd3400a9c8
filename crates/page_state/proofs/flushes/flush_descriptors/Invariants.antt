use Rattle.std.proofs.Common.{◌≡◌, ℕ, ◌<◌, take}
use Rattle.std.specs.List.{flat_map}
use Rattle.std.specs.Prelude.{Some}
use Rattle.pm_trait.specs.Device.{IsFlushed}
use Rattle.fence_token.specs.Flushes.{Flushes}
use Rattle.page_state.specs.Page.{OfFirst, IsDescriptorWord}
use Rattle.page_state.specs.Events.{descriptor_flush}
use Rattle.page_state.proofs.flushes.flush_descriptors.Given as goal

abbrev pub invariant-loop-page : goal.invariant-loop-page
invariant-loop-page g l = record {
  ticket : 0 < l.page-index → l.ticket ≡ Some (g.P.Pm.view l.pm).fences;
  flushed : (word : ℕ) → OfFirst l.pages l.page-index (IsDescriptorWord l.geometry.pages) word → IsFlushed (g.P.Pm.view l.pm).trail word;
  device : Flushes (g.P.Pm.view l.initial.pm) (g.P.Pm.view l.pm) (flat_map (descriptor_flush l.geometry.pages) (take l.page-index l.pages)) l.page-index;
}

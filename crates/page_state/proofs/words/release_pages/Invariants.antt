use Rattle.std.proofs.Common.{ℕ, ◌*◌, ◌<◌, slice_index, take}
use Rattle.std.specs.List.{flat_map}
use Rattle.fence_token.specs.Stored.{StoresExactly}
use Rattle.page_state.specs.Page.{OfFirst, IsReleasedWord, IsWithoutKind}
use Rattle.page_state.specs.Events.{release_of_page}
use Rattle.page_state.proofs.words.release_pages.Given as goal

abbrev pub invariant-loop-page : goal.invariant-loop-page
invariant-loop-page g l = record {
  device : StoresExactly (OfFirst l.pages l.page-index (IsReleasedWord l.geometry.pages)) (g.P.Pm.view l.initial.pm) (g.P.Pm.view l.pm) (flat_map (release_of_page l.geometry.pages) (take l.page-index l.pages)) (2 * l.page-index);
  released : (index : ℕ) → index < l.page-index → IsWithoutKind l.geometry.pages (g.P.Pm.view l.pm).words (slice_index l.pages index);
}

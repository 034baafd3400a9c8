use Rattle.std.proofs.Common.{◌≡◌, ℕ, ◌<◌, slice_index}
use Rattle.layout.specs.Geometry.{page_word_of}
use Rattle.fence_token.specs.Stored.{StoresExactly}
use Rattle.page_state.proofs.Contents.{IsEarlierWord}
use Rattle.page_state.proofs.Told.{some_stores}
use Rattle.page_state.proofs.words.store_slots.Given as goal

abbrev pub invariant-loop-place : goal.invariant-loop-place
invariant-loop-place g l = record {
  device : StoresExactly (IsEarlierWord l.geometry.pages l.page l.place) (g.P.Pm.view l.initial.pm) (g.P.Pm.view l.pm) (some_stores l.geometry.pages l.first l.page l.place) l.place;
  contents : (place : ℕ) → place < l.place → slice_index (g.P.Pm.view l.pm).words (page_word_of l.geometry.pages l.page place) ≡ slice_index l.first place;
}

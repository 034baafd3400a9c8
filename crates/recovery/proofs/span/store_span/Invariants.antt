use Rattle.std.proofs.Common.{◌≡◌, ℕ, ◌-◌, ◌<◌, ◌≤◌, length, slice_index}
use Rattle.pm_trait.specs.DeviceView.{Stores}
use Rattle.recovery.specs.Changes.{IsWithin}
use Rattle.recovery.proofs.span.store_span.Given as goal

abbrev pub invariant-loop-word : goal.invariant-loop-word
invariant-loop-word g l = record {
  stored : (a : ℕ) → l.first ≤ a → a < l.word → slice_index (g.P.Pm.view l.pm).words a ≡ l.value;
  long : length (g.P.Pm.view l.pm).words ≡ length (g.P.Pm.view l.initial.pm).words;
  device : Stores (IsWithin l.first l.word) (g.P.Pm.view l.initial.pm) (g.P.Pm.view l.pm) (l.word - l.first);
}

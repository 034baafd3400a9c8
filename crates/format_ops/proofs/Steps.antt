-- The events of an interval, counted in two ways.
use Rattle.std.proofs.Common.{◌≡◌, ℕ, subst}
use Rattle.std.specs.Prelude.{Result}
use Rattle.pm_trait.specs.DeviceView.{DeviceView, StoresAndFences}

-- by another name of the number of its events
pub fenced_as : {T E : Type 0} {a b : DeviceView} {result : Result T E} (one other : ℕ) → one ≡ other → StoresAndFences a b one result → StoresAndFences a b other result
fenced_as {a = a} {b} {result} one other is made = subst (λ (events : ℕ). StoresAndFences a b events result) is made

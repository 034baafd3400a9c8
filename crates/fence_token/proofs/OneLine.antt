-- The events of a word that is set by itself.
use Rattle.std.proofs.Common.{ℕ, ◌+◌, ◌-◌, ◌/◌, subst, arith}
use Rattle.std.specs.Prelude.{Result}
use Rattle.pm_trait.specs.DeviceView.{DeviceView, StoresAndFences}

-- one line is flushed, by whatever names its number
pub one_line : {T E : Type 0} {a b : DeviceView} {result : Result T E} (word : ℕ) → StoresAndFences a b (1 + (word / 8 - word / 8 + 1) + 1) result → StoresAndFences a b 3 result
one_line {a = a} {b} {result} word made = subst (λ (events : ℕ). StoresAndFences a b events result) (omega arith) made

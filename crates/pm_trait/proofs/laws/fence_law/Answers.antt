use Rattle.std.proofs.Common.{ℕ, refl}
use Rattle.std.specs.Prelude.{Ok}
use Rattle.pm_trait.proofs.DeviceLaws.{fence_ends, fenced_leaves}
use Rattle.pm_trait.proofs.laws.fence_law.Goals as goal

pub returns : goal.returns
returns c = λ is_stored a b ta tb settled run flushed.
    let ends = fence_ends {T = ℕ} {E = ℕ} (Ok 0) settled run flushed refl refl tt in
    record { settled = ends.settled; leaves = fenced_leaves ends (λ image mix. (refl, mix)) }

-- A call that acknowledges nothing.
use Rattle.std.proofs.Common.{◌≡◌, ℕ, List}
use Rattle.std.specs.Prelude.{Option}
use Rattle.pm_trait.specs.Trail.{Trail}
use Rattle.pm_trait.specs.Device.{LeavesOnly, acks_from, moment_of}
use Rattle.pm_trait.proofs.ContinuesLaws.{acks_from-quiet}

pub leaves_unacknowledged : {Q : List ℕ → Type 0} {a b : Option Trail} → LeavesOnly a b (λ k. Q) → acks_from a b (moment_of b) ≡ 0 → LeavesOnly a b (λ k image. (k ≡ 0) × Q image)
leaves_unacknowledged leaves none = record {
  continues = leaves.continues;
  each = λ moment image from upto may. (acks_from-quiet moment leaves.continues none from, leaves.each moment image from upto may);
}

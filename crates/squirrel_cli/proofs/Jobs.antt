-- What is made by `mkfs`.
use Rattle.std.proofs.Common.{◌≡◌, ℕ, ◌*◌, ◌/◌, List, length, ap, subst, arith}
use Rattle.pm_trait.specs.Device.{LeavesOnly, IsHonest}
use Rattle.pm_trait.specs.DeviceView.{DeviceView}
use Rattle.pm_trait.proofs.ContinuesLaws.{no_acks_told}
use Rattle.format_ops.specs.Crashes.{IsOldHiddenOrFormatted}
use Rattle.squirrel_cli.specs.Formats.{KeepsOldOrFormatted}
use Rattle.squirrel_cli.proofs.Unacknowledged.{leaves_unacknowledged}

-- the pages are those of the length
pub pages_of : (now seen : List ℕ) (pages : ℕ) → seen ≡ now → length seen ≡ 512 * pages → length now / 512 ≡ pages
pages_of now seen pages is long = let same = ap length is in omega (arith, same, long)

-- what a crash in a format leaves, and that it acknowledges nothing
pub formats_only : {before after : DeviceView} (pages : ℕ) → IsHonest before.words before.trail before.fences before.acks → IsHonest after.words after.trail after.fences after.acks → after.acks ≡ before.acks
    → LeavesOnly before.trail after.trail (λ k. IsOldHiddenOrFormatted (length before.words / 512) before.words) → length before.words / 512 ≡ pages → KeepsOldOrFormatted pages before after
formats_only {before} {after} pages honest behind stays leaves made = record {
  any_moment =
      leaves_unacknowledged (subst (λ (p : ℕ). LeavesOnly before.trail after.trail (λ k. IsOldHiddenOrFormatted p before.words)) made leaves)
      (no_acks_told after.trail leaves.continues honest behind stays);
  acks = stays;
}

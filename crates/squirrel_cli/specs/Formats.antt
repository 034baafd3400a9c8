-- What `mkfs` makes, and what a crash in it leaves.
use Rattle.std.specs.Prelude.{◌≡◌, ℕ, ◌+◌, ◌<◌}
use Rattle.pm_trait.specs.Device.{LeavesOnly, EndsInFault}
use Rattle.pm_trait.specs.DeviceView.{DeviceView}
use Rattle.layout.specs.Format.{IsFormattedFrom}
use Rattle.image_reading.specs.Laws.{IsFresh}
use Rattle.script.specs.Texts.{formatted_text}
use Rattle.format_ops.specs.Crashes.{IsOldHiddenOrFormatted}
use Rattle.squirrel_cli.specs.declared.status.Status.{Status}
use Rattle.squirrel_cli.specs.declared.status.Status.TheVariants.{Done, DeviceFault}
use Rattle.squirrel_cli.specs.Seen.{Seen, IsSilent}
use Rattle.squirrel_cli.specs.Told.{IsToldOrCut}

-- A crash leaves the old words, no volume, or the fresh one, and nothing is acknowledged.
pub record KeepsOldOrFormatted (pages : ℕ) (before after : DeviceView) : Type 0 where
  pub any_moment : LeavesOnly before.trail after.trail (λ acks image. (acks ≡ 0) × IsOldHiddenOrFormatted pages before.words image)
  pub acks : after.acks ≡ before.acks

-- A fence failed: fewer than three were made, and no event comes after it.
pub record FailsToFormat {S K : Type 0} (pages : ℕ) (old new : Seen S K) (status : Status) : Type 0 where
  pub is : status ≡ DeviceFault
  pub silent : IsSilent old new
  pub only : KeepsOldOrFormatted pages old.device new.device
  pub fewer : new.device.fences < old.device.fences + 3
  pub halts : EndsInFault new.device.trail

-- The device is a fresh volume of so many pages, made by three fences, and its numbers were written, or a prefix of them where a write
-- failed. Its tree is the root alone, and every word of the data pages is as it was.
pub record HasFormatted {S K : Type 0} (pages : ℕ) (old new : Seen S K) (status : Status) : Type 0 where
  pub script : new.script ≡ old.script
  pub formatted : IsFormattedFrom pages old.device.words new.device.words
  pub fresh : IsFresh pages new.device.words
  pub only : KeepsOldOrFormatted pages old.device new.device
  pub fences : new.device.fences ≡ old.device.fences + 3
  pub faults : new.device.faults ≡ old.device.faults
  pub told : IsToldOrCut Done (formatted_text pages) status old.took new.took

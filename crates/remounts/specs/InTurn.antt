-- Crashes in mounts, one after the other: what each of them leaves, and how a mount is refused.
use Rattle.std.specs.Prelude.{◌≡◌, ℕ, ◌≤◌, min, List, [], ◌∷◌, length, Some}
use Rattle.pm_trait.specs.Trail.{Trail, IsCrashImage, trail_at}
use Rattle.pm_trait.specs.DeviceView.{DeviceView}
use Rattle.pm_memory.specs.Chosen.{IsChosenImage}
use Rattle.pm_memory.specs.Fresh.{IsNew}
use Rattle.tree_model.specs.Run.{State}
use Rattle.image_reading.specs.Reading.{ReadsAs}
use Rattle.image_reading.specs.Soundness.{IsFirstViolation, pages_in_image}
use Rattle.repair_laws.specs.Mended.{IsMended}
use Rattle.recovery.specs.Repairs.{events_of_repairs}
use Rattle.mount_scan.specs.Mounting.{HoldsVolume, IsSound}
use Rattle.mount_scan.specs.Mounts.{Mounts}
use Rattle.mount_scan.specs.declared.error.MountError.{MountError}
use Rattle.mount_scan.specs.declared.error.MountError.TheVariants.{NotVolume, Damaged, PmFault, NoMemory}
use Rattle.remounts.specs.declared.Crash.{Crash}

-- the bytes that choose among candidates: the oldest of each word where there are none
abbrev pub keep_of : List ℕ → List ℕ
keep_of [] = 0 ∷ []
keep_of (byte ∷ bytes) = byte ∷ bytes

-- A new device of these words was mounted. A crash at this moment of it, or at its end where that came before, left the image
-- that the bytes choose.
pub record LeavesImage (crash : Crash) (words image : List ℕ) : Type 0 where
  pub before : DeviceView
  pub new : IsNew before words
  pub sound : IsSound words
  pub state : State
  pub reads : ReadsAs (pages_in_image words) words state
  pub mounted : DeviceView
  pub mount : Mounts (pages_in_image words) state before mounted
  pub trail : Trail
  pub recorded : mounted.trail ≡ Some trail
  pub left : IsCrashImage (trail_at trail (min crash.moment (length trail.events))) image
  pub chosen : IsChosenImage (trail_at trail (min crash.moment (length trail.events))) (keep_of crash.keep.now) image

-- A crash at the bound of the mount's events or later leaves the words that recovery makes.
abbrev pub LateCrashLaw : Type 0
LateCrashLaw = (crash : Crash) (words image : List ℕ) (left : LeavesImage crash words image) → events_of_repairs left.mount.repairs ≤ crash.moment → IsMended (pages_in_image words) words image

-- the words of each mount but the first are those that the crash in the one before left
abbrev pub LeaveInTurn : List Crash → List ℕ → List ℕ → Type 0
LeaveInTurn [] words last = last ≡ words
LeaveInTurn (crash ∷ later) words last = (image : List ℕ) × LeavesImage crash words image × LeaveInTurn later image last

-- The mount of a new device of these words may be refused so. None of its fences fails.
abbrev pub IsRefusedAs : List ℕ → MountError → Type 0
IsRefusedAs words NotVolume = ¬ HoldsVolume words
IsRefusedAs words (Damaged violation) = HoldsVolume words × IsFirstViolation words violation
IsRefusedAs words PmFault = ⊥
IsRefusedAs words NoMemory = Unit {0}

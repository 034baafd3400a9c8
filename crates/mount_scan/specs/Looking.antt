-- What a look at the words of a device finds. W is the words; their length says how many pages are meant.
use Rattle.std.specs.Prelude.{◌≡◌, ℕ, false, List, Result, Ok, Err}
use Rattle.layout.specs.Superblock.{has_mark}
use Rattle.image_reading.specs.Soundness.{IsFirstViolation, pages_in_image}
use Rattle.repair_laws.specs.Mended.{IsMended}
use Rattle.recovery.specs.Plans.{IsPlanOf}
use Rattle.volume.specs.Stands.{Knows}
use Rattle.mount_scan.specs.Mounting.{HoldsVolume, IsSound}
use Rattle.mount_scan.specs.declared.error.MountError.{MountError}
use Rattle.mount_scan.specs.declared.error.MountError.TheVariants.{NotVolume, Damaged, PmFault, NoMemory}
use Rattle.mount_scan.specs.declared.look.Found.{Found}

-- the repairs that the words need, and the volume of the words that recovery makes of them
pub record HasFound (W : List ℕ) (found : Found) : Type 0 where
  pub sound : IsSound W
  pub size : found.volume.size ≡ pages_in_image W
  pub going : found.volume.stopped ≡ false
  pub marked : found.volume.marked ≡ has_mark W
  pub no_call : found.volume.kept ≡ 0
  pub knows : (K : List ℕ) → IsMended (pages_in_image W) W K → Knows found.volume K
  pub made_for : found.repairs.geometry.pages ≡ pages_in_image W
  pub planned : IsPlanOf W found.repairs

-- what each answer says of the words
abbrev pub IsAnswerFor : List ℕ → Result Found MountError → Type 0
IsAnswerFor W (Ok found) = HasFound W found
IsAnswerFor W (Err NotVolume) = ¬ HoldsVolume W
IsAnswerFor W (Err (Damaged violation)) = HoldsVolume W × IsFirstViolation W violation
IsAnswerFor W (Err PmFault) = ⊥
IsAnswerFor W (Err NoMemory) = HoldsVolume W

-- What a mount does to the device. P is its number of pages.
use Rattle.std.specs.Prelude.{◌≡◌, ℕ, ◌+◌, ◌<◌, ◌≤◌, false, List, Ok, Err}
use Rattle.pm_trait.specs.Device.{HasRisen, LeavesOnly, EndsInFault, acks_from, moment_of}
use Rattle.pm_trait.specs.DeviceView.{DeviceView, GrowsBy, IsSettledView}
use Rattle.pm_trait.specs.Unfolds.{KeepsWords, Unfolds}
use Rattle.layout.specs.Superblock.{IsSuperblockWord}
use Rattle.tree_model.specs.Run.{State}
use Rattle.image_reading.specs.Reading.{ReadsAs}
use Rattle.image_reading.specs.Soundness.{IsFirstViolation, Sound, pages_in_image}
use Rattle.image_reading.specs.Tidy.{Tidy}
use Rattle.image_laws.specs.Frame.{IsSoundAs}
use Rattle.repair_laws.specs.Mended.{IsMended}
use Rattle.recovery.specs.declared.repairs.Repairs.{Repairs}
use Rattle.recovery.specs.Plans.{IsPlanOf}
use Rattle.recovery.specs.Repairs.{steps_of, events_of_repairs, fences_of_repairs}
use Rattle.volume.specs.Crashes.{MeansState}
use Rattle.volume.specs.Stands.{StandsFor}
use Rattle.volume.specs.Volume.{VolumeView}
use Rattle.mount_scan.specs.Mounting.{HoldsVolume, IsSound}
use Rattle.mount_scan.specs.declared.error.MountError.{MountError}
use Rattle.mount_scan.specs.declared.error.MountError.TheVariants.{NotVolume, Damaged, PmFault, NoMemory}

-- a mount makes at most so many fences
abbrev pub mount_fences : ℕ
mount_fences = 4

-- Nothing was done to the device, but that it may have made room, or refused to.
pub record IsLeftAlone (before after : DeviceView) : Type 0 where
  pub words : after.words ≡ before.words
  pub trail : after.trail ≡ before.trail
  pub faults : after.faults ≡ before.faults
  pub fences : after.fences ≡ before.fences
  pub acks : after.acks ≡ before.acks
  pub room : before.spare ≤ after.spare
  pub refused : before.refused ≤ after.refused

-- A crash at any moment leaves an image with Q, and nothing was acknowledged.
pub record KeepsImages (Q : List ℕ → Type 0) (before after : DeviceView) : Type 0 where
  pub any_moment : LeavesOnly before.trail after.trail (λ acks image. (acks ≡ 0) × Q image)
  pub no_ack : acks_from before.trail after.trail (moment_of after.trail) ≡ 0
  pub acks : after.acks ≡ before.acks

-- one that is sound and means what the words at entry mean
abbrev pub KeepsMeaning : ℕ → DeviceView → DeviceView → Type 0
KeepsMeaning P before after = KeepsImages (IsSoundAs P before.words) before after

-- one that means this state
abbrev pub KeepsState : ℕ → State → DeviceView → DeviceView → Type 0
KeepsState P state before after = KeepsImages (MeansState P state) before after

-- The words are those that recovery makes of the words at entry, by the repairs that these need: their steps in turn once the device,
-- left alone but for that, has room for them; a fence for each that has a store.
pub record MakesRepairs (P : ℕ) (before mounted : DeviceView) : Type 0 where
  pub repairs : Repairs
  pub size : repairs.geometry.pages ≡ P
  pub planned : IsPlanOf before.words repairs
  pub ready : DeviceView
  pub left_alone : IsLeftAlone before ready
  pub in_turn : Unfolds {T = Unit {0}} {E = Unit {0}} (steps_of repairs) ready mounted (Ok tt)
  pub mended : IsMended P before.words mounted.words
  pub fences : mounted.fences ≡ before.fences + fences_of_repairs repairs
  pub few : fences_of_repairs repairs ≤ mount_fences
  pub events : GrowsBy (events_of_repairs repairs) before mounted

-- What a mount of words that read as this state leaves: the device before and after it.
pub record Mounts (P : ℕ) (state : State) (before mounted : DeviceView) : Type 0 where
  pub settled : IsSettledView mounted
  pub tidy : Tidy P mounted.words
  pub reads : ReadsAs P mounted.words state
  pub keeps : KeepsState P state before mounted
  pub open keeps use *
  -- no word of the superblock is another, the mark among them
  pub beside : KeepsWords IsSuperblockWord before.words mounted.words
  pub made : MakesRepairs P before mounted
  pub open made use *
  pub faults : mounted.faults ≡ before.faults
  pub refused : mounted.refused ≡ before.refused
  -- words that need no recovery are left alone
  pub alone : Tidy P before.words → IsLeftAlone before mounted

-- A fence failed in the mount of words that need recovery, and was the last event: a crash leaves the state of the words
-- at entry.
pub record FailsToMount (P : ℕ) (before after : DeviceView) : Type 0 where
  pub sound : Sound P before.words
  pub recovers : ¬ Tidy P before.words
  pub start : State
  pub reads : ReadsAs P before.words start
  pub keeps : KeepsState P start before after
  pub open keeps use *
  pub beside : KeepsWords IsSuperblockWord before.words after.words
  pub cause : HasRisen before.faults after.faults
  pub halts : EndsInFault after.trail
  pub refused : after.refused ≡ before.refused
  pub repairs : Repairs
  pub size : repairs.geometry.pages ≡ P
  pub planned : IsPlanOf before.words repairs
  pub ready : DeviceView
  pub left_alone : IsLeftAlone before ready
  pub in_turn : Unfolds {T = Unit {0}} {E = Unit {0}} (steps_of repairs) ready after (Err tt)
  -- the fences that it made before the one that failed are fewer than those of the repairs, and its events no more
  pub made : ℕ
  pub fences : after.fences ≡ before.fences + made
  pub fewer : made < fences_of_repairs repairs
  pub events : GrowsBy (events_of_repairs repairs) before after

-- The device was mounted, and nothing else was done to it. The words at entry read as the state.
pub record IsOnlyMounted (P : ℕ) (before mounted : DeviceView) : Type 0 where
  pub start : State
  pub reads : ReadsAs P before.words start
  pub mount : Mounts P start before mounted

-- A mount that is done: the words at entry are a sound volume, and the one in memory stands for the state that they read as.
pub record HasMounted (volume : VolumeView) (before mounted : DeviceView) : Type 0 where
  pub sound : IsSound before.words
  pub only : IsOnlyMounted (pages_in_image before.words) before mounted
  pub open only use *
  pub stands : StandsFor volume mounted start
  pub size : volume.size ≡ pages_in_image before.words
  pub going : volume.stopped ≡ false

-- Why a device was not mounted, and how it is left then.
abbrev pub RefusesMount : MountError → DeviceView → DeviceView → Type 0
RefusesMount NotVolume before after = ¬ HoldsVolume before.words × (after ≡ before)
RefusesMount (Damaged violation) before after = HoldsVolume before.words × IsFirstViolation before.words violation × (after ≡ before)
RefusesMount PmFault before after = FailsToMount (pages_in_image before.words) before after
RefusesMount NoMemory before after = HoldsVolume before.words × IsLeftAlone before after × (¬ IsSound before.words → after ≡ before)

-- What words may become by mounts, and crashes at any moments of them.
use Rattle.std.specs.Prelude.{◌≡◌, ℕ, ◌≤◌, List}
use Rattle.pm_trait.specs.Device.{MayLeave, moment_of}
use Rattle.pm_trait.specs.DeviceView.{DeviceView, IsSettledView}
use Rattle.tree_model.specs.Run.{State}
use Rattle.image_reading.specs.Reading.{ReadsAs}
use Rattle.image_reading.specs.Soundness.{Sound}
use Rattle.image_laws.specs.Frame.{IsSoundAs}
use Rattle.mount_scan.specs.Mounts.{FailsToMount, IsLeftAlone, Mounts}

-- What a mount of a device of P pages comes to: its end, a fence that failed, or a refusal that left the device alone.
pub data WasMounted (P : ℕ) (before after : DeviceView) : Type 0 where
  mounted : (state : State) → ReadsAs P before.words state → Mounts P state before after → WasMounted P before after
  failed : FailsToMount P before after → WasMounted P before after
  refused : IsLeftAlone before after → WasMounted P before after

-- A crash at some moment of a mount of these words leaves the image.
pub record CrashLeaves (P : ℕ) (words image : List ℕ) : Type 0 where
  pub before : DeviceView
  pub same : before.words ≡ words
  pub settled : IsSettledView before
  pub after : DeviceView
  pub mount : WasMounted P before after
  pub moment : ℕ
  pub from : moment_of before.trail ≤ moment
  pub upto : moment ≤ moment_of after.trail
  pub leaves : MayLeave after.trail moment image

-- The words W themselves, or what a crash in a mount of words that may follow them leaves.
pub data MayFollow (P : ℕ) (W : List ℕ) : List ℕ → Type 0 where
  itself : MayFollow P W W
  crashed : (words image : List ℕ) → MayFollow P W words → CrashLeaves P words image → MayFollow P W image

-- What may follow sound words is sound, and means what they mean.
abbrev pub FollowLaw : Type 0
FollowLaw = (P : ℕ) (W image : List ℕ) → Sound P W → MayFollow P W image → IsSoundAs P W image

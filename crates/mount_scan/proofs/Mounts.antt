-- What a mount rests on: the head of the words, and a device that is left as it was.
use Rattle.std.proofs.Common.{◌≡◌, ℕ, ◌*◌, List, length, Option, refl, sym, subst}
use Rattle.pm_trait.specs.Trail.{Trail}
use Rattle.pm_trait.specs.Device.{LeavesOnly, acks_from, moment_of}
use Rattle.pm_trait.specs.DeviceView.{DeviceView, IsSettledView}
use Rattle.pm_trait.proofs.ContinuesLaws.{continues_here, acks_from-here}
use Rattle.pm_trait.proofs.DeviceLaws.{leaves_here}
use Rattle.image_reading.specs.Laws.{IsVolume}
use Rattle.image_reading.specs.Soundness.{KeepsRule1, Rule, Sound, pages_in_image}
use Rattle.image_reading.proofs.Violations.{head_law, pages_law}
use Rattle.image_laws.specs.Frame.{IsSoundAs}
use Rattle.image_laws.proofs.Meaning.{same_itself}
use Rattle.mount_scan.specs.Mounting.{HoldsVolume}
use Rattle.mount_scan.specs.Mounts.{IsLeftAlone, KeepsMeaning}

-- ---- the head

pub no_head : (W : List ℕ) → ((P : ℕ) → ¬ KeepsRule1 P W) → ¬ HoldsVolume W
no_head W none holds = none (pages_in_image W) ((head_law (pages_in_image W) W).1 holds)

pub head_holds : (P : ℕ) (W : List ℕ) → KeepsRule1 P W → HoldsVolume W
head_holds P W rule = subst (λ (n : ℕ). IsVolume n W) (sym (pages_law P W rule)) ((head_law P W).0 rule)

pub head_whole : (P : ℕ) (W : List ℕ) → KeepsRule1 P W → length W ≡ 512 * P
head_whole P W rule = ((head_law P W).0 rule).whole

pub head_pages : (P : ℕ) (W : List ℕ) → KeepsRule1 P W → pages_in_image W ≡ P
head_pages P W rule = pages_law P W rule

-- a sound volume has a head
pub sound_holds : {W : List ℕ} → Sound (pages_in_image W) W → HoldsVolume W
sound_holds {W} sound = head_holds (pages_in_image W) W (sound.coherent Rule.head)

-- ---- a device that is left as it was

pub keeps_itself : (P : ℕ) (device : DeviceView) → IsSettledView device → Sound P device.words → KeepsMeaning P device device
keeps_itself P device settled sound = record {
  any_moment = leaves_here (λ k image. (k ≡ 0) × IsSoundAs P device.words image) settled (refl, record { sound = sound; same = same_itself P device.words sound.coherent });
  no_ack = acks_from-here (continues_here device.trail);
  acks = refl;
}

pub keeps_alone : (P : ℕ) {before after : DeviceView} → IsSettledView before → Sound P before.words → IsLeftAlone before after → KeepsMeaning P before after
keeps_alone P {before} {after} settled sound alone =
    let itself = keeps_itself P before settled sound in
    record {
      any_moment = subst (λ (trail : Option Trail). LeavesOnly before.trail trail (λ acks image. (acks ≡ 0) × IsSoundAs P before.words image)) (sym alone.trail) itself.any_moment;
      no_ack = subst (λ (trail : Option Trail). acks_from before.trail trail (moment_of trail) ≡ 0) (sym alone.trail) itself.no_ack;
      acks = alone.acks;
    }

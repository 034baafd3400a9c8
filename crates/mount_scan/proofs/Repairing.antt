-- What the repairs that a mount makes do to the device.
use Rattle.std.proofs.Common.{◌≡◌, ℕ, ◌+◌, ◌-◌, ◌≤◌, List, Option, sym, ap, subst, ◌∙◌, arith}
use Rattle.std.specs.Prelude.{Result, Ok, Err, OnOk}
use Rattle.pm_trait.specs.Trail.{Trail}
use Rattle.pm_trait.specs.Device.{HasRisen, LeavesOnly, acks_from, moment_of}
use Rattle.pm_trait.specs.DeviceView.{DeviceView, GrowsBy, Reserves, MakesIntervals}
use Rattle.pm_trait.specs.Unfolds.{KeepsWords, Unfolds}
use Rattle.pm_trait.proofs.Unfolding.{unfolds_as, unfolds_failed_as}
use Rattle.layout.specs.Superblock.{IsSuperblockWord}
use Rattle.image_reading.specs.Reading.{ReadsAs}
use Rattle.image_reading.specs.Soundness.{pages_in_image}
use Rattle.image_reading.specs.Tidy.{IsTidied, Tidy}
use Rattle.image_reading.proofs.Tidied.{as_tidy, tidied}
use Rattle.image_laws.specs.Frame.{IsSoundAs}
use Rattle.repair_laws.specs.Mended.{IsMended}
use Rattle.repair_laws.proofs.Mended.{mended_law}
use Rattle.recovery.specs.Repairs.{steps_of, events_of_repairs, fences_of_repairs}
use Rattle.recovery.proofs.Still.{few_fences, no_fences}
use Rattle.volume.specs.Costs.{mark_events}
use Rattle.volume.proofs.Unmarked.{same_mark}
use Rattle.mount_scan.specs.declared.look.Found.{Found}
use Rattle.mount_scan.specs.Looking.{HasFound}
use Rattle.mount_scan.specs.Mounts.{IsLeftAlone, KeepsMeaning, Mounts, IsOnlyMounted, HasMounted, FailsToMount}
use Rattle.mount_scan.proofs.States.{same_reads, some_state, state_kept}

-- The repairs that were found in the words of a device that has made room for them, and what they have come to.
pub record Repaired {T E : Type 0} (found : Found) (before reserved after : DeviceView) (result : Result T E) : Type 0 where
  pub has : HasFound before.words found
  pub room : IsLeftAlone before reserved
  pub refused : reserved.refused ≡ before.refused
  pub in_turn : Unfolds (steps_of found.repairs) reserved after result
  pub any_moment : LeavesOnly reserved.trail after.trail (λ acks image. (acks ≡ 0) × IsSoundAs found.repairs.geometry.pages reserved.words image)
  pub mended : OnOk result (IsMended found.repairs.geometry.pages reserved.words after.words)
  pub device : MakesIntervals reserved after (events_of_repairs found.repairs) (fences_of_repairs found.repairs) result
  pub beside : KeepsWords IsSuperblockWord reserved.words after.words
  pub quiet : fences_of_repairs found.repairs ≡ 0 → after ≡ reserved
  pub spare : events_of_repairs found.repairs + mark_events ≤ reserved.spare

pub reserved_alone : {T E : Type 0} {events : ℕ} {before reserved : DeviceView} {result : Result T E} → Reserves before reserved events result → IsLeftAlone before reserved
reserved_alone reserve = record { words = reserve.words; trail = reserve.trail; faults = reserve.faults; fences = reserve.fences; acks = reserve.acks; room = reserve.room; refused = reserve.refused }

module _ {T E : Type 0} (found : Found) (before reserved after : DeviceView) (result : Result T E) (repaired : Repaired found before reserved after result) where
  pub keeps : KeepsMeaning (pages_in_image before.words) before after
  keeps = record {
    any_moment = subst (λ (trail : Option Trail). LeavesOnly trail after.trail (λ acks image. (acks ≡ 0) × IsSoundAs (pages_in_image before.words) before.words image)) repaired.room.trail
        (subst (λ (words : List ℕ). LeavesOnly reserved.trail after.trail (λ acks image. (acks ≡ 0) × IsSoundAs (pages_in_image before.words) words image)) repaired.room.words
        (subst (λ (n : ℕ). LeavesOnly reserved.trail after.trail (λ acks image. (acks ≡ 0) × IsSoundAs n reserved.words image)) repaired.has.made_for repaired.any_moment));
    no_ack = subst (λ (trail : Option Trail). acks_from trail after.trail (moment_of after.trail) ≡ 0) repaired.room.trail repaired.device.no_ack;
    acks = repaired.device.acks ∙ repaired.room.acks;
  }

  pub beside : KeepsWords IsSuperblockWord before.words after.words
  beside = subst (λ (words : List ℕ). KeepsWords IsSuperblockWord words after.words) repaired.room.words repaired.beside

  -- the room for the events of closing
  pub closes : mark_events ≤ after.spare
  closes = let spare = repaired.spare in let left = repaired.device.room in omega (arith, spare, left)

  pub grown : GrowsBy (events_of_repairs found.repairs) before after
  grown = let same = ap moment_of repaired.room.trail in let more = repaired.device.grown in omega (arith, same, more)

  -- tidy words need no fence, and are left alone
  still : Tidy (pages_in_image before.words) before.words → fences_of_repairs found.repairs ≡ 0
  still clean = no_fences before.words found.repairs (subst (λ (n : ℕ). IsTidied n before.words) (sym repaired.has.made_for) (tidied clean)) repaired.has.planned

  alone : Tidy (pages_in_image before.words) before.words → IsLeftAlone before after
  alone clean = subst (IsLeftAlone before) (sym (repaired.quiet (still clean))) repaired.room

module _ {T E : Type 0} (found : Found) (before reserved after : DeviceView) (done : T) (repaired : Repaired {E = E} found before reserved after (Ok done)) where
  mended : IsMended (pages_in_image before.words) before.words after.words
  mended =
      subst (λ (n : ℕ). IsMended n before.words after.words) repaired.has.made_for
      (subst (λ (words : List ℕ). IsMended found.repairs.geometry.pages words after.words) repaired.room.words repaired.mended)

  only_mounted : IsOnlyMounted (pages_in_image before.words) before after
  only_mounted =
      let (state, reads) = some_state (pages_in_image before.words) before.words repaired.has.sound.coherent in
      let (same, tidy) = mended_law (pages_in_image before.words) before.words after.words repaired.has.sound.coherent mended in
      let mount : Mounts (pages_in_image before.words) state before after = record {
        settled = repaired.device.settled;
        tidy = as_tidy tidy;
        reads = same_reads (pages_in_image before.words) before.words after.words state reads same;
        keeps = state_kept state reads (keeps found before reserved after (Ok done) repaired);
        beside = beside found before reserved after (Ok done) repaired;
        made = record {
          repairs = found.repairs;
          size = repaired.has.made_for;
          planned = repaired.has.planned;
          ready = reserved;
          left_alone = repaired.room;
          in_turn = unfolds_as tt repaired.in_turn;
          mended = mended;
          fences = repaired.device.counted ∙ ap (λ (fences : ℕ). fences + fences_of_repairs found.repairs) repaired.room.fences;
          few = few_fences found.repairs;
          events = grown found before reserved after (Ok done) repaired;
        };
        faults = repaired.device.no_fault ∙ repaired.room.faults;
        refused = repaired.device.refused ∙ repaired.refused;
        alone = alone found before reserved after (Ok done) repaired;
      } in
      record { start = state; reads = reads; mount = mount }

  -- What was found in the words is mounted once the repairs are made.
  pub has_mounted : HasMounted found.volume before after
  has_mounted =
      let only = only_mounted in
      record {
        sound = repaired.has.sound;
        only = only;
        stands = record {
          settled = only.mount.settled;
          tidy = subst (λ (n : ℕ). Tidy n after.words) (sym repaired.has.size) only.mount.tidy;
          reads = subst (λ (n : ℕ). ReadsAs n after.words only.start) (sym repaired.has.size) only.mount.reads;
          knows = repaired.has.knows after.words mended;
          mark = repaired.has.marked ∙ sym (same_mark before.words after.words only.mount.beside);
          room = closes found before reserved after (Ok done) repaired;
          no_call = repaired.has.no_call;
        };
        size = repaired.has.size;
        going = repaired.has.going;
      }

-- A fence failed in them.
pub fails : {T E : Type 0} (found : Found) (before reserved after : DeviceView) (fault : E) → Repaired {T = T} found before reserved after (Err fault) → FailsToMount (pages_in_image before.words) before after
fails found before reserved after fault repaired =
    let (state, reads) = some_state (pages_in_image before.words) before.words repaired.has.sound.coherent in
    let fences = repaired.room.fences in
    let fewer = repaired.device.fewer in
    let least = repaired.device.least_fences in
    record {
      sound = repaired.has.sound;
      recovers = λ clean. let none = still found before reserved after (Err fault) repaired clean in omega (arith, none, fewer, least);
      start = state;
      reads = reads;
      keeps = state_kept state reads (keeps found before reserved after (Err fault) repaired);
      beside = beside found before reserved after (Err fault) repaired;
      cause = subst (λ (faults : ℕ). HasRisen faults after.faults) repaired.room.faults repaired.device.cause;
      halts = repaired.device.halts;
      refused = repaired.device.refused ∙ repaired.refused;
      repairs = found.repairs;
      size = repaired.has.made_for;
      planned = repaired.has.planned;
      ready = reserved;
      left_alone = repaired.room;
      in_turn = unfolds_failed_as tt repaired.in_turn;
      made = after.fences - before.fences;
      fences = omega (arith, least, fences);
      fewer = omega (arith, fewer, fences, least);
      events = grown found before reserved after (Err fault) repaired;
    }

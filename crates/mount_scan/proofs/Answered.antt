-- What the answer of a mount tells, of each state that the words at entry read as, and of words that are sound or aren't.
use Rattle.std.proofs.Common.{◌≡◌, ◌⊎◌, inl, inr, ℕ, List, refl, arith}
use Rattle.std.specs.Prelude.{Result, Ok, Err, IsOk, MatchResult}
use Rattle.layout.specs.Superblock.{HasMark}
use Rattle.pm_trait.specs.DeviceView.{DeviceView}
use Rattle.tree_model.specs.Run.{State}
use Rattle.image_reading.specs.Reading.{ReadsAs}
use Rattle.image_reading.specs.Soundness.{pages_in_image}
use Rattle.image_reading.proofs.Readings.{one_tree, one_room}
use Rattle.image_reading.proofs.Violations.{no_violation}
use Rattle.mount_scan.specs.Looking.{IsAnswerFor}
use Rattle.mount_scan.specs.Mounting.{IsSound}
use Rattle.mount_scan.specs.Mounts.{IsLeftAlone, FailsToMount, HasMounted, RefusesMount}
use Rattle.volume.specs.Volume.{VolumeView}
use Rattle.mount_scan.specs.declared.error.MountError.{MountError}
use Rattle.mount_scan.specs.declared.error.MountError.TheVariants.{NotVolume, Damaged, PmFault, NoMemory}
use Rattle.mount_scan.proofs.Mounts.{sound_holds}

-- ---- of a volume that is mounted

-- words read as one state
pub one_state : {P : ℕ} {W : List ℕ} (state other : State) → ReadsAs P W state → ReadsAs P W other → state ≡ other
one_state {P} {W} state other reads also =
    let tree = one_tree P W state.tree other.tree reads.tree also.tree in
    let room = one_room P W state.room other.room reads.room also.room in
    λ i. record { tree = tree i; room = room i }

-- ---- of one that isn't

alone_itself : (device : DeviceView) → IsLeftAlone device device
alone_itself device = record { words = refl; trail = refl; faults = refl; fences = refl; acks = refl; room = omega arith; refused = omega arith }

-- where a look at the words found none to mount
pub refuses : (error : MountError) (device : DeviceView) → IsAnswerFor device.words (Err error) → RefusesMount error device device
refuses NotVolume device none = (none, refl)
refuses (Damaged violation) device (holds, first) = (holds, first, refl)
refuses PmFault device never = absurd never
refuses NoMemory device holds = (holds, alone_itself device, λ _. refl)

-- sound words are refused for want of memory, or a fence failed
pub refused_sound : (error : MountError) {before after : DeviceView} → RefusesMount error before after → IsSound before.words
    → (error ≡ NoMemory) ⊎ (error ≡ PmFault) × FailsToMount (pages_in_image before.words) before after
refused_sound NotVolume (none, same) sound = absurd (none (sound_holds sound))
refused_sound (Damaged violation) {before} (holds, first, same) sound = absurd (no_violation before.words violation sound first)
refused_sound PmFault fails sound = inr (refl, fails)
refused_sound NoMemory refused sound = inl refl

-- A volume that was closed is left alone, or memory is short.
pub closed : {V : Type 0} (view : V → VolumeView) {before after : DeviceView} (result : Result V MountError) → MatchResult result (λ volume. HasMounted (view volume) before after) (λ error. RefusesMount error before after)
    → IsSound before.words → HasMark before.words → IsLeftAlone before after × (IsOk result ⊎ (result ≡ Err NoMemory))
closed view (Ok volume) mounts sound marked = (mounts.mount.alone (record { sound = sound; repaired = sound.mark marked }), inl refl)
closed view (Err NotVolume) (none, same) sound marked = absurd (none (sound_holds sound))
closed view {before} (Err (Damaged violation)) (holds, first, same) sound marked = absurd (no_violation before.words violation sound first)
closed view (Err PmFault) fails sound marked = absurd (fails.recovers (record { sound = sound; repaired = sound.mark marked }))
closed view (Err NoMemory) refused sound marked = (refused.1, inr refl)

-- What a crash in a mount leaves, and crashes one after the other.
use Rattle.std.proofs.Common.{◌≡◌, ◌⊎◌, inl, inr, ℕ, suc, ◌+◌, ◌<◌, ◌≤◌, List, [], ◌∷◌, ◌++◌, length, take, refl, sym, ap, subst, ◌∙◌, arith}
use Rattle.std.proofs.Math.Seq.{take-suc}
use Rattle.std.proofs.lemmas.List.{take_all}
use Rattle.std.proofs.lemmas.Option.{get_or_from_slice_get}
use Rattle.std.specs.Prelude.{Option, Some, None, IfSome, min, slice_get}
use Rattle.pm_trait.specs.Trail.{Trail, IsCrashImage, trail_at}
use Rattle.pm_trait.specs.Device.{Continues, HasRisen, MayLeave, moment_of}
use Rattle.pm_trait.specs.DeviceView.{DeviceView}
use Rattle.pm_trait.proofs.DeviceLaws.{settled_leaves}
use Rattle.pm_memory.specs.Chosen.{IsChosenImage}
use Rattle.pm_memory.specs.Fresh.{IsNew}
use Rattle.image_reading.specs.Reading.{ReadsAs}
use Rattle.image_reading.specs.Soundness.{IsFirstViolation, Rule, Sound, pages_in_image}
use Rattle.image_reading.proofs.Violations.{pages_law}
use Rattle.image_laws.specs.Frame.{IsSoundAs}
use Rattle.repair_laws.specs.Mended.{IsMended}
use Rattle.volume.specs.Volume.{VolumeView}
use Rattle.mount_scan.specs.Mounting.{HoldsVolume, IsSound}
use Rattle.mount_scan.specs.Mounts.{FailsToMount, HasMounted, Mounts, RefusesMount}
use Rattle.mount_scan.specs.declared.error.MountError.{MountError}
use Rattle.mount_scan.specs.declared.error.MountError.TheVariants.{NotVolume, Damaged, PmFault, NoMemory}
use Rattle.mount_scan.proofs.Answered.{refused_sound}
use Rattle.remounts.specs.Follow.{CrashLeaves, MayFollow}
use Rattle.remounts.specs.Follow.WasMounted.{mounted}
use Rattle.remounts.specs.Follow.MayFollow.{itself, crashed}
use Rattle.remounts.specs.InTurn.{keep_of, LeavesImage, LateCrashLaw, LeaveInTurn, IsRefusedAs}
use Rattle.remounts.specs.declared.Crash.{Crash}
use Rattle.remounts.proofs.Followed.{crash_keeps, follow_law}

pub keep_none : (keep : List ℕ) → length keep ≡ 0 → keep_of keep ≡ 0 ∷ []
keep_none [] none = refl
keep_none (byte ∷ bytes) none = absurd (omega (arith, none))

pub keep_some : (keep : List ℕ) → 0 < length keep → keep_of keep ≡ keep
keep_some [] some = absurd (omega (arith, some))
keep_some (byte ∷ bytes) some = refl

-- the trail of the device, and what was taken of it at the crash
record Recorded (moment : ℕ) (keep image : List ℕ) (trail : Option Trail) : Type 0 where
  told : Trail
  is : trail ≡ Some told
  left : IsCrashImage (trail_at told (min moment (length told.events))) image
  chosen : IsChosenImage (trail_at told (min moment (length told.events))) keep image

recorded : {first : Trail} (moment events chosen_at : ℕ) (keep image : List ℕ) (trail : Option Trail) → Continues (Some first) trail → IfSome trail (λ told. events ≡ length told.events)
    → chosen_at ≡ min moment events → IfSome trail (λ told. IsCrashImage (trail_at told chosen_at) image) → IfSome trail (λ told. IsChosenImage (trail_at told chosen_at) keep image)
    → Recorded moment keep image trail
recorded moment events chosen_at keep image None continues counted at left chosen = absurd (cc continues.appended)
recorded moment events chosen_at keep image (Some told) continues counted at left chosen =
    let there = at ∙ ap (λ (n : ℕ). min moment n) counted in
    record {
      told = told;
      is = refl;
      left = subst (λ (n : ℕ). IsCrashImage (trail_at told n) image) there left;
      chosen = subst (λ (n : ℕ). IsChosenImage (trail_at told n) keep image) there chosen;
    }

pub leaves_image : {crash : Crash} {volume : VolumeView} {before mounted : DeviceView} {words keep image : List ℕ} {trail : Option Trail} (events chosen_at : ℕ) → IsNew before words → HasMounted volume before mounted
    → trail ≡ mounted.trail → IfSome trail (λ told. events ≡ length told.events) → keep ≡ keep_of crash.keep.now
    → chosen_at ≡ min crash.moment events → IfSome trail (λ told. IsCrashImage (trail_at told chosen_at) image)
    → IfSome trail (λ told. IsChosenImage (trail_at told chosen_at) keep image) → LeavesImage crash words image
leaves_image {crash} {volume} {before} {mounted} {words} {keep} {image} {trail} events chosen_at new has same counted kept at left chosen =
    let onwards = subst (λ (t : Option Trail). Continues t mounted.trail) new.trail has.mount.any_moment.continues in
    let continues = subst (λ (t : Option Trail). Continues (Some (record { base = words; events = [] })) t) (sym same) onwards in
    let told = recorded crash.moment events chosen_at keep image trail continues counted at left chosen in
    record {
      before = before;
      new = new;
      sound = subst IsSound new.words has.sound;
      state = has.start;
      reads = subst (λ (w : List ℕ). ReadsAs (pages_in_image w) w has.start) new.words has.reads;
      mounted = mounted;
      mount = subst (λ (w : List ℕ). Mounts (pages_in_image w) has.start before mounted) new.words has.mount;
      trail = told.told;
      recorded = sym same ∙ told.is;
      left = told.left;
      chosen = subst (λ (bytes : List ℕ). IsChosenImage (trail_at told.told (min crash.moment (length told.told.events))) bytes image) kept told.chosen;
    }

-- a device whose count of faults stays 0 had no fault
never_fails : {P : ℕ} {before after : DeviceView} → before.faults ≡ 0 → after.faults ≡ 0 → FailsToMount P before after → ⊥
never_fails {P} {before} {after} was is fails = risen fails.cause
  where
    risen : HasRisen before.faults after.faults → ⊥
    risen (inl more) = absurd (omega (arith, more, was, is))
    risen (inr full) = absurd (omega (arith, full, is))

-- such a device is refused for its words, or for want of memory
pub refused_as : (error : MountError) (before after : DeviceView) {words : List ℕ} → IsNew before words → after.faults ≡ 0 → RefusesMount error before after → IsRefusedAs words error
refused_as NotVolume before after new still (none, same) = subst (λ (w : List ℕ). ¬ HoldsVolume w) new.words none
refused_as (Damaged violation) before after new still (holds, first, same) = subst (λ (w : List ℕ). HoldsVolume w × IsFirstViolation w violation) new.words (holds, first)
refused_as PmFault before after new still fails = never_fails new.faults still fails
refused_as NoMemory before after new still refused = tt

-- and of sound words for want of memory alone
pub only_memory : (error : MountError) (before after : DeviceView) {words : List ℕ} → IsNew before words → after.faults ≡ 0 → RefusesMount error before after → IsSound words → error ≡ NoMemory
only_memory error before after new still refused sound = elim (refused_sound error refused (subst IsSound (sym new.words) sound)) [
  | inl memory ↦ memory
  | inr fault ↦ absurd (never_fails new.faults still fault.1)
]

-- ---- one after the other

one_after : (earlier : List Crash) (words left : List ℕ) {crash : Crash} {image : List ℕ} → LeaveInTurn earlier words left → LeavesImage crash left image → LeaveInTurn (earlier ++ crash ∷ []) words image
one_after [] words left {crash} {image} same leaves = (image, subst (λ (w : List ℕ). LeavesImage crash w image) same leaves, refl)
one_after (first ∷ earlier) words left (image, leaves_first, in_turn) leaves = (image, leaves_first, one_after earlier image left in_turn leaves)

pub one_more : (crashes : List Crash) (k : ℕ) (words left : List ℕ) {seen image : List ℕ} {crash : Crash} → LeaveInTurn (take k crashes) words left → LeavesImage crash seen image → seen ≡ left
    → k < length crashes → slice_get crashes k ≡ Some crash → LeaveInTurn (take (k + 1) crashes) words image
one_more crashes k words left {seen} {image} {crash} in_turn leaves same below is =
    let next : k + 1 ≡ suc k = omega arith in
    let more : take (k + 1) crashes ≡ take k crashes ++ crash ∷ [] =
    ap (λ n. take n crashes) next ∙ take-suc crashes k crash below ∙ ap (λ (c : Crash). take k crashes ++ c ∷ []) (get_or_from_slice_get crashes k crash crash is) in
    subst (λ (done : List Crash). LeaveInTurn done words image) (sym more)
    (one_after (take k crashes) words left in_turn (subst (λ (w : List ℕ). LeavesImage crash w image) same leaves))

-- what was left without a mount is the words, and what was mounted was sound
same_or_sound : (crashes : List Crash) (words left : List ℕ) → LeaveInTurn crashes words left → (crashes ≡ []) × (left ≡ words) ⊎ IsSound words
same_or_sound [] words left same = inl (refl, same)
same_or_sound (crash ∷ later) words left (image, leaves, in_turn) = inr leaves.sound

-- the crashes so far are all of them
pub all_turns : (crashes : List Crash) (k : ℕ) (words left : List ℕ) → length crashes ≤ k → LeaveInTurn (take k crashes) words left → LeaveInTurn crashes words left
all_turns crashes k words left all in_turn = subst (λ (l : List Crash). LeaveInTurn l words left) (take_all k crashes all) in_turn

pub sound_where_mounted : (crashes : List Crash) (words left : List ℕ) → LeaveInTurn crashes words left → 0 < length crashes → IsSound words
sound_where_mounted crashes words left in_turn some = elim (same_or_sound crashes words left in_turn) [
  | inl none ↦ let empty = ap length none.0 in absurd (omega (arith, some, empty))
  | inr sound ↦ sound
]

-- ---- what the last one leaves may follow the words

crash_leaves : {crash : Crash} {words image : List ℕ} → LeavesImage crash words image → CrashLeaves (pages_in_image words) words image
crash_leaves {crash} {words} {image} left =
    let moment = min crash.moment (length left.trail.events) in
    let start : moment_of left.before.trail ≡ 0 = ap moment_of left.new.trail in
    let end : moment_of left.mounted.trail ≡ length left.trail.events = ap moment_of left.recorded in
    record {
      before = left.before;
      same = left.new.words;
      settled = left.new.settled;
      after = left.mounted;
      mount = mounted left.state (subst (λ (w : List ℕ). ReadsAs (pages_in_image words) w left.state) (sym left.new.words) left.reads) left.mount;
      moment = moment;
      from = omega (arith, start);
      upto = omega (arith, end);
      leaves = subst (λ (t : Option Trail). MayLeave t moment image) (sym left.recorded) left.left;
    }

same_pages : {crash : Crash} {words image : List ℕ} → LeavesImage crash words image → pages_in_image image ≡ pages_in_image words
same_pages {words = words} {image = image} left =
    pages_law (pages_in_image words) image ((crash_keeps (pages_in_image words) words image left.sound (crash_leaves left)).sound.coherent Rule.head)

follow_on : (P : ℕ) (W : List ℕ) (crashes : List Crash) (words last : List ℕ) → P ≡ pages_in_image words → MayFollow P W words → LeaveInTurn crashes words last → MayFollow P W last
follow_on P W [] words last pages follows same = subst (MayFollow P W) (sym same) follows
follow_on P W (crash ∷ later) words last pages follows (image, left, in_turn) =
    follow_on P W later image last (pages ∙ sym (same_pages left))
    (crashed words image follows (subst (λ (n : ℕ). CrashLeaves n words image) (sym pages) (crash_leaves left))) in_turn

pub turns_follow : (crashes : List Crash) (words last : List ℕ) → LeaveInTurn crashes words last → MayFollow (pages_in_image words) words last
turns_follow crashes words last in_turn = follow_on (pages_in_image words) words crashes words last refl itself in_turn

pub turns_mean : (crashes : List Crash) (words last : List ℕ) → LeaveInTurn crashes words last → IsSound words → IsSoundAs (pages_in_image words) words last
turns_mean crashes words last in_turn sound = follow_law (pages_in_image words) words last sound (turns_follow crashes words last in_turn)

pub turns_sound : (crashes : List Crash) (words last : List ℕ) → LeaveInTurn crashes words last → IsSound words → IsSound last
turns_sound crashes words last in_turn sound =
    let means = turns_mean crashes words last in_turn sound in
    subst (λ (n : ℕ). Sound n last) (sym (pages_law (pages_in_image words) last (means.sound.coherent Rule.head))) means.sound

-- a crash behind the last event leaves the mended words
pub late_crash : LateCrashLaw
late_crash crash words image left late =
    let P = pages_in_image words in
    let moment = min crash.moment (length left.trail.events) in
    let start : moment_of left.before.trail ≡ 0 = ap moment_of left.new.trail in
    let end : moment_of left.mounted.trail ≡ length left.trail.events = ap moment_of left.recorded in
    let most = left.mount.events in
    let last : moment ≡ moment_of left.mounted.trail = omega (arith, start, end, most, late) in
    let is = settled_leaves left.mounted.words left.mounted.trail moment image left.mount.settled last (subst (λ (t : Option Trail). MayLeave t moment image) (sym left.recorded) left.left) in
    subst (λ (w : List ℕ). IsMended P w image) left.new.words (subst (IsMended P left.before.words) (sym is) left.mount.mended)

-- ---- how one of them is refused

pub refused_unsound : (crashes : List Crash) (words left : List ℕ) (error : MountError) → LeaveInTurn crashes words left → ¬ IsSound words → IsRefusedAs left error → IsRefusedAs words error
refused_unsound crashes words left error in_turn unsound refused = elim (same_or_sound crashes words left in_turn) [
  | inl none ↦ subst (λ (w : List ℕ). IsRefusedAs w error) none.1 refused
  | inr sound ↦ absurd (unsound sound)
]

pub refused_first : (crashes : List Crash) (k : ℕ) (words left : List ℕ) (error : MountError) → k < length crashes → LeaveInTurn (take k crashes) words left → IsRefusedAs left error
    → (IsSound left → error ≡ NoMemory) → (error ≡ NoMemory) ⊎ (0 < length crashes) × IsRefusedAs words error
refused_first crashes k words left error below in_turn refused memory = elim (same_or_sound (take k crashes) words left in_turn) [
  | inl none ↦ let some : 0 < length crashes = omega arith in inr (some, subst (λ (w : List ℕ). IsRefusedAs w error) none.1 refused)
  | inr sound ↦ inl (memory (turns_sound (take k crashes) words left in_turn sound))
]

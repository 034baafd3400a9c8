-- What is told of a device that was not mounted.
use Rattle.std.proofs.Common.{◌≡◌, ◌≢◌, ◌⊎◌, inl, inr, ℕ, ◌≤◌, List, refl, sym, ap, subst, ◌∙◌, arith}
use Rattle.std.specs.Prelude.{Option, Result, Ok, Err, Bool, true, false, ◌==◌, if◌then◌else◌}
use Rattle.std.proofs.lemmas.Bool.{cases_lt, eqb-true}
use Rattle.pm_trait.specs.Trail.{Trail}
use Rattle.pm_trait.specs.Device.{HasRisen, IsSettledAt}
use Rattle.pm_trait.specs.DeviceView.{DeviceView, IsSettledView}
use Rattle.io_edge.specs.declared.sink.WriteFault.{WriteFault}
use Rattle.io_edge.specs.Bytes.{Writes}
use Rattle.image_reading.specs.Soundness.{BreaksMark, BreaksRule, IsFirstViolation, Obeys, Rule, number, pages_in_image}
use Rattle.image_reading.specs.Soundness.Rule.{head, root, pointers, one_pointer, inodes, names, kinds, own_names, own_directories, page_kinds, sizes, all_pages, own_offsets, links}
use Rattle.image_reading.specs.declared.Violation.{Violation}
use Rattle.image_reading.proofs.Violations.{head_law, no_violation, same_rule}
use Rattle.mount_scan.specs.Mounting.{HoldsVolume, IsSound}
use Rattle.mount_scan.proofs.Answered.{refused_sound}
use Rattle.mount_scan.specs.Mounts.{IsLeftAlone, RefusesMount}
use Rattle.mount_scan.specs.declared.error.MountError.{MountError}
use Rattle.mount_scan.specs.declared.error.MountError.TheVariants as refused
use Rattle.squirrel_cli.specs.declared.status.Status.{Status}
use Rattle.squirrel_cli.specs.declared.status.Status.TheVariants as status
use Rattle.squirrel_cli.specs.Causes.{TellsFaults}
use Rattle.squirrel_cli.specs.Rows.{MountsAnd}
use Rattle.squirrel_cli.specs.Seen.{Seen}
use Rattle.squirrel_cli.specs.Told.{IsToldUnlessShort, IsToldOrCut, IsToldOf, TellsWrites, refusal_of, status_of_write}

-- ---- what was told

-- another status than these two isn't told
not_told : {wanted is other : Status} {text : List ℕ} {before after : List ℕ → Type 0} → wanted ≢ other → other ≢ status.WriteFault → IsToldOrCut wanted text is before after → is ≢ other
not_told apart uncut (inl told) is = apart (sym told.0 ∙ is)
not_told apart uncut (inr cut) is = uncut (sym is ∙ cut.0)

-- ---- why it was refused, and what the mount left

-- what is sound is a volume
pub sound_volume : (W : List ℕ) → IsSound W → HoldsVolume W
sound_volume W sound = (head_law (pages_in_image W) W).0 (λ place. sound.coherent head place)

-- a first violation is none of a sound volume
pub not_sound : {W : List ℕ} {violation : Violation} → IsFirstViolation W violation → ¬ IsSound W
not_sound {W} {violation} is sound = no_violation W violation sound is

module _ {S K : Type 0} (old new : Seen S K) {is : Status} where
  -- a job that mounts the device does what was told, and no more
  pub refused_row : (F : Seen S K → Seen S K → Status → Type 0) (error : MountError) → RefusesMount error old.device new.device → IsToldOf error is old.took new.took → new.script ≡ old.script
      → ((is ≡ status.NoMemory) ⊎ (is ≡ status.DeviceFault) → new.output ≡ old.output) → MountsAnd F old new is
  refused_row F refused.NotVolume (not, same) told script output =
      inr (inl (λ sound. not (sound_volume old.device.words sound), record { device = same; script = script; told = inl (not, told) }))
  refused_row F (refused.Damaged violation) (holds, first, same) told script output =
      inr (inl (not_sound first, record { device = same; script = script; told = inr (holds, (violation, first, told)) }))
  refused_row F refused.PmFault fails told script output =
      inr (inr (fails.sound, inl fails.cause, inl (record { is = told; silent = record { script = script; output = output (inr told) }; mount = fails })))
  refused_row F refused.NoMemory (holds, alone, unsound) told script output =
      inl (record { is = told; silent = record { script = script; output = output (inl told) }; device = inl alone; unsound = unsound })

  not_read : (error : MountError) → IsToldOf error is old.took new.took → is ≢ status.ReadFault
  not_read refused.NotVolume told same = not_told (λ e. cc e) (λ e. cc e) told same
  not_read (refused.Damaged violation) told same = not_told (λ e. cc e) (λ e. cc e) told same
  not_read refused.PmFault told same = cc (told, same)
  not_read refused.NoMemory told same = cc (told, same)

  not_done : (error : MountError) → IsToldOf error is old.took new.took → is ≢ status.Done
  not_done refused.NotVolume told same = not_told (λ e. cc e) (λ e. cc e) told same
  not_done (refused.Damaged violation) told same = not_told (λ e. cc e) (λ e. cc e) told same
  not_done refused.PmFault told same = cc (told, same)
  not_done refused.NoMemory told same = cc (told, same)

  -- a device fault is told of a mount in which a fence failed
  fault_told : (error : MountError) → RefusesMount error old.device new.device → IsToldOf error is old.took new.took → is ≡ status.DeviceFault → HasRisen old.device.faults new.device.faults
  fault_told refused.NotVolume why told same = absurd (not_told (λ e. cc e) (λ e. cc e) told same)
  fault_told (refused.Damaged violation) why told same = absurd (not_told (λ e. cc e) (λ e. cc e) told same)
  fault_told refused.PmFault fails told same = fails.cause
  fault_told refused.NoMemory why told same = absurd (cc (told, same))

  -- and memory is short of no such mount
  memory_told : (error : MountError) → RefusesMount error old.device new.device → IsToldOf error is old.took new.took → is ≡ status.NoMemory → new.device.faults ≡ old.device.faults
  memory_told refused.NotVolume (not, same) told answered = ap (λ (device : DeviceView). device.faults) same
  memory_told (refused.Damaged violation) (holds, first, same) told answered = ap (λ (device : DeviceView). device.faults) same
  memory_told refused.PmFault fails told answered = absurd (cc (told, answered))
  memory_told refused.NoMemory (holds, alone, unsound) told answered = alone.faults

  pub refused_cause : (error : MountError) → RefusesMount error old.device new.device → IsToldOf error is old.took new.took → TellsWrites is old.write_faults new.write_faults → new.read_faults ≡ old.read_faults → TellsFaults old new is
  refused_cause error why told writes unread = record {
    device = fault_told error why told;
    done = λ same. absurd (not_done error told same);
    no_memory = memory_told error why told;
    read = λ same. absurd (not_read error told same);
    no_read_fault = λ other. unread;
    write = writes.write;
    no_write_fault = writes.no_write_fault;
  }

  -- what a job ends with that lists and writes alone has no other cause than a write that failed
  pub listed_cause : {text : List ℕ} → IsToldUnlessShort text is old.took new.took → TellsWrites is old.write_faults new.write_faults → new.read_faults ≡ old.read_faults → new.device.faults ≡ old.device.faults → TellsFaults old new is
  listed_cause told writes unread unfailed = record {
    device = λ same. absurd (never told same (λ e. cc e) (λ e. cc e) (λ e. cc e));
    done = λ same. unfailed;
    no_memory = λ same. unfailed;
    read = λ same. absurd (never told same (λ e. cc e) (λ e. cc e) (λ e. cc e));
    no_read_fault = λ other. unread;
    write = writes.write;
    no_write_fault = writes.no_write_fault;
  }
    where
      never : {other : Status} {text : List ℕ} → IsToldUnlessShort text is old.took new.took → is ≡ other → other ≢ status.NoMemory → other ≢ status.Done → other ≢ status.WriteFault → ⊥
      never (inl memory) same short done cut = short (sym same ∙ memory)
      never (inr (inl told)) same short done cut = done (sym same ∙ told.0)
      never (inr (inr told)) same short done cut = cut (sym same ∙ told.0)

-- a device that was left alone is settled as it was
pub alone_settled : {before after : DeviceView} → IsLeftAlone before after → IsSettledView before → IsSettledView after
alone_settled {before} {after} alone settled =
    subst (λ (words : List ℕ). IsSettledAt words after.trail) (sym alone.words)
    (subst (λ (trail : Option Trail). IsSettledAt before.words trail) (sym alone.trail) settled)

pub refused_settled : (before after : DeviceView) (error : MountError) → RefusesMount error before after → IsSettledView before → HasRisen before.faults after.faults ⊎ IsSettledView after
refused_settled before after refused.NotVolume (not, same) settled = inr (subst IsSettledView (sym same) settled)
refused_settled before after (refused.Damaged violation) (holds, first, same) settled = inr (subst IsSettledView (sym same) settled)
refused_settled before after refused.PmFault fails settled = inl fails.cause
refused_settled before after refused.NoMemory (holds, alone, unsound) settled = inr (alone_settled alone settled)

-- of sound words a device that never fails is refused for want of memory alone
pub refused_memory : (error : MountError) (before after : DeviceView) → IsSound before.words → (HasRisen before.faults after.faults → ⊥) → RefusesMount error before after → error ≡ refused.NoMemory
refused_memory error before after sound never why = elim (refused_sound error why sound) [
  | inl memory ↦ memory
  | inr (is, fails) ↦ absurd (never fails.cause)
]

-- ---- by a text that was written

module _ {took now : List ℕ → Type 0} {faults_before faults_after : ℕ} {text : List ℕ} (wanted : Status) (written : Result (Unit {0}) WriteFault) (writes : Writes took now faults_before faults_after text written) where
  pub told_by : IsToldOrCut wanted text (status_of_write written wanted) took now
  told_by = by_write written writes
    where
      by_write : (written : Result (Unit {0}) WriteFault) → Writes took now faults_before faults_after text written → IsToldOrCut wanted text (status_of_write written wanted) took now
      by_write (Ok done) whole = inl (refl, whole.whole)
      by_write (Err fault) cut = inr (refl, cut.cut)

  -- so it is told by each status that is this one
  pub told_as : {is : Status} → is ≡ status_of_write written wanted → IsToldOrCut wanted text is took now
  told_as same = subst (λ (is : Status). IsToldOrCut wanted text is took now) (sym same) told_by

  pub writes_tell : {is : Status} → wanted ≢ status.WriteFault → is ≡ status_of_write written wanted → TellsWrites is faults_before faults_after
  writes_tell not same = subst (λ (s : Status). TellsWrites s faults_before faults_after) (sym same) (by_write written writes)
    where
      by_write : (written : Result (Unit {0}) WriteFault) → Writes took now faults_before faults_after text written → TellsWrites (status_of_write written wanted) faults_before faults_after
      by_write (Ok done) whole = record { write = λ e. absurd (not e); no_write_fault = λ other. whole.no_fault }
      by_write (Err fault) cut = record { write = λ e. cut.cause; no_write_fault = λ other. absurd (other refl) }

-- ---- by a first violation

number_least : (rule : Rule) → 1 ≤ number rule
number_least head = omega arith
number_least root = omega arith
number_least pointers = omega arith
number_least one_pointer = omega arith
number_least inodes = omega arith
number_least names = omega arith
number_least kinds = omega arith
number_least own_names = omega arith
number_least own_directories = omega arith
number_least page_kinds = omega arith
number_least sizes = omega arith
number_least all_pages = omega arith
number_least own_offsets = omega arith
number_least links = omega arith

breaks_first : (W : List ℕ) (violation : Violation) → (is : BreaksRule W violation) → violation.rule ≡ 1 → ¬ HoldsVolume W
breaks_first W violation is one holds =
    let at_head : is.rule ≡ head = same_rule is.rule head (is.numbered ∙ one) in
    is.first.broken (subst (λ (rule : Rule). Obeys (pages_in_image W) W rule violation.place) (sym at_head) ((head_law (pages_in_image W) W).1 holds violation.place))

breaks_later : (W : List ℕ) (violation : Violation) → (is : BreaksRule W violation) → (violation.rule == 1) ≡ false → HoldsVolume W
breaks_later W violation is other = elim (cases_lt 1 (number is.rule)) [
  | inl more ↦ (head_law (pages_in_image W) W).0 (λ place. is.first.earlier_rules head place more)
  | inr most ↦
      let least = number_least is.rule in
      let numbered = is.numbered in
      let one : violation.rule ≡ 1 = omega (arith, most, least, numbered) in
      let same : (violation.rule == 1) ≡ true = ap (λ (n : ℕ). n == 1) one in
      absurd (cc (same, other))
]

-- words that break the rule of the mark fit together, so they are a volume, and that rule is not the first
mark_later : (violation : Violation) {W : List ℕ} → BreaksMark W violation → violation.rule ≢ 1
mark_later violation is one = let last = is.numbered in omega (arith, last, one)

first_rule : (W : List ℕ) (violation : Violation) → IsFirstViolation W violation → violation.rule ≡ 1 → ¬ HoldsVolume W
first_rule W violation (inl is) one = breaks_first W violation is one
first_rule W violation (inr is) one = absurd (mark_later violation is one)

later_rule : (W : List ℕ) (violation : Violation) → IsFirstViolation W violation → (violation.rule == 1) ≡ false → HoldsVolume W
later_rule W violation (inl is) other = breaks_later W violation is other
later_rule W violation (inr is) other = (head_law (pages_in_image W) W).0 (λ place. is.coherent head place)

-- what a mount refuses such words with tells why
pub why_broken : (device : DeviceView) (violation : Violation) → IsFirstViolation device.words violation → RefusesMount (refusal_of violation) device device
why_broken device violation first =
    elim (violation.rule == 1) as (λ (b : Bool). (violation.rule == 1) ≡ b → RefusesMount (if b then refused.NotVolume else refused.Damaged violation) device device) [
      | true ↦ λ is. (first_rule device.words violation first (eqb-true violation.rule 1 is), refl)
      | false ↦ λ is. (later_rule device.words violation first is, first, refl)
    ] refl

-- what was told of it was told by the sink as it was
pub told_as_refused : {error wanted : MountError} {took before : List ℕ → Type 0} (is : Status) (now : List ℕ → Type 0) → error ≡ wanted → took ≡ before → IsToldOf error is took now → IsToldOf wanted is before now
told_as_refused {wanted = wanted} {took = took} is now same sink told =
    subst (λ (t : List ℕ → Type 0). IsToldOf wanted is t now) sink (subst (λ (e : MountError). IsToldOf e is took now) same told)

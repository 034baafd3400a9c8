-- What a report that was written tells.
use Rattle.std.proofs.Common.{◌≡◌, inl, inr, ℕ, refl, subst}
use Rattle.std.specs.Prelude.{Result, Ok, Err, Bool, true, false, ◌==◌, if◌then◌else◌}
use Rattle.io_edge.specs.Bytes.{Writes}
use Rattle.mount_scan.specs.Reports.{Reports, report_text}
use Rattle.image_reading.specs.declared.Violation.{Violation}
use Rattle.mount_scan.specs.Mounts.{RefusesMount}
use Rattle.mount_scan.specs.declared.error.MountError.TheVariants as refused
use Rattle.squirrel_cli.specs.declared.status.Status.{Status}
use Rattle.squirrel_cli.specs.declared.status.Status.TheVariants as status
use Rattle.squirrel_cli.specs.Told.{IsToldOf, refusal_of}
use Rattle.squirrel_cli.proofs.Refusals.{not_sound, sound_volume}
use Rattle.squirrel_cli.specs.Rows.{Checks}
use Rattle.squirrel_cli.specs.Seen.{Seen}

module _ {S K : Type 0} (old new : Seen S K) (device : new.device ≡ old.device) (script : new.script ≡ old.script) where
  pub checks_done : {T E : Type 0} {faults_before faults_after : ℕ} {result : Result T E} {value : T} → result ≡ Ok value
      → Reports old.device.words old.took new.took faults_before faults_after result → Checks old new status.Done
  checks_done {faults_before = faults_before} {faults_after = faults_after} is reports =
      let whole = subst (Writes old.took new.took faults_before faults_after (report_text reports.tree reports.repairs)) is reports.writes in
      inr (inr (reports.sound, record { device = device; script = script; tree = reports.tree; reads = reports.reads; repairs = reports.repairs; counted = reports.counted; told = inl (refl, whole.whole) }))

  pub checks_cut : {T E : Type 0} {faults_before faults_after : ℕ} {result : Result T E} {fault : E} → result ≡ Err fault
      → Reports old.device.words old.took new.took faults_before faults_after result → Checks old new status.WriteFault
  checks_cut {faults_before = faults_before} {faults_after = faults_after} is reports =
      let cut = subst (Writes old.took new.took faults_before faults_after (report_text reports.tree reports.repairs)) is reports.writes in
      inr (inr (reports.sound, record { device = device; script = script; tree = reports.tree; reads = reports.reads; repairs = reports.repairs; counted = reports.counted; told = inr (refl, cut.cut) }))

  -- of words that break a rule is told what a mount would tell
  pub checks_refused : {is : Status} (violation : Violation) → RefusesMount (refusal_of violation) old.device new.device → IsToldOf (refusal_of violation) is old.took new.took → Checks old new is
  checks_refused {is} violation why told =
      elim (violation.rule == 1) as (λ (b : Bool). RefusesMount (if b then refused.NotVolume else refused.Damaged violation) old.device new.device → IsToldOf (if b then refused.NotVolume else refused.Damaged violation) is old.took new.took → Checks old new is) [
        | true ↦ λ why told. inr (inl ((λ sound. why.0 (sound_volume old.device.words sound)), record { device = device; script = script; told = inl (why.0, told) }))
        | false ↦ λ why told. inr (inl (not_sound why.1, record { device = device; script = script; told = inr (why.0, (violation, why.1, told)) }))
      ] why told

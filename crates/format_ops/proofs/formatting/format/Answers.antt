use Rattle.std.proofs.Common.{rules, ◌≡◌, ℕ, ◌/◌, inl, List, length, refl, sym, ap, subst, arith}
use Rattle.std.specs.Prelude.{Option, Err}
use Rattle.pm_trait.specs.Trail.{Trail}
use Rattle.pm_trait.specs.Device.{LeavesOnly}
use Rattle.pm_trait.specs.DeviceView.{DeviceView}
use Rattle.pm_trait.proofs.DeviceLaws.{leaves_here}
use Rattle.image_reading.specs.Laws.{IsFresh}
use Rattle.image_reading.proofs.Format.{format_law}
use Rattle.format_ops.specs.Crashes.{IsOldHiddenOrFormatted}
use Rattle.pm_trait.proofs.Unfolding.{intervals, unfolds_as, unfolds_failed_as}
use Rattle.format_ops.specs.declared.error.FormatError.TheVariants.{PmFault}
use Rattle.format_ops.specs.Outcome.{TakesSteps, Formats}
use Rattle.format_ops.proofs.Course.{after_reserve}
use Rattle.format_ops.proofs.formatting.format.Goals as goal

pub returns-in_default-clause-any_moment : goal.returns-in_default-clause-any_moment
returns-in_default-clause-any_moment g c =
    let old = (g.P.Pm.view c.args.pm.now).words in
    leaves_here (λ _. IsOldHiddenOrFormatted (length old / 512) old) c.requires.settled (inl refl)

pub returns-in_err-reserve-clause-any_moment : goal.returns-in_err-reserve-clause-any_moment
returns-in_err-reserve-clause-any_moment g c =
    let old = (g.P.Pm.view c.args.pm.now).words in
    let here = leaves_here (λ _. IsOldHiddenOrFormatted (length old / 512) old) c.requires.settled (inl refl) in
    subst (λ (trail : Option Trail). LeavesOnly (g.P.Pm.view c.args.pm.now).trail trail (λ _. IsOldHiddenOrFormatted (length old / 512) old)) (sym c.reserve.ensures.trail) here

pub returns-clause-fresh : goal.returns-clause-fresh
returns-clause-fresh g c =
    let geometry = c.in-Some.geometry in
    let old = (g.P.Pm.view c.args.pm.now).words in
    let is : geometry.pages ≡ length old / 512 = omega (arith, c.in-Some.ensures.whole, ap length c.image.ensures) in
    subst (λ (pages : ℕ). IsFresh pages (g.P.Pm.view c.make_volume.new.pm).words) is
    (format_law geometry.pages (g.P.Pm.view c.reserve.new.self).words (g.P.Pm.view c.make_volume.new.pm).words geometry.volume_size c.in_ok-make_volume.ensures.formatted)

pub returns-in_err-make_volume-clause-in_turn : goal.returns-in_err-make_volume-clause-in_turn
returns-in_err-make_volume-clause-in_turn g c =
    let old = g.P.Pm.view c.args.pm.now in
    let new = g.P.Pm.view c.make_volume.new.pm in
    let geometry = c.in-Some.geometry in
    let is : geometry.pages ≡ length old.words / 512 = omega (arith, c.in-Some.ensures.whole, ap length c.image.ensures) in
    let fault : c.from_residual-in_err-make_volume.result ≡ Err PmFault = search rules in
    subst (TakesSteps old new) (sym fault) (after_reserve is c.in_ok-reserve.ensures (unfolds_failed_as PmFault c.in_err-make_volume.ensures.unfolds))

pub returns-in_err-make_volume-clause-device : goal.returns-in_err-make_volume-clause-device
returns-in_err-make_volume-clause-device g c =
    let old = g.P.Pm.view c.args.pm.now in
    let new = g.P.Pm.view c.make_volume.new.pm in
    let geometry = c.in-Some.geometry in
    let is : geometry.pages ≡ length old.words / 512 = omega (arith, c.in-Some.ensures.whole, ap length c.image.ensures) in
    let fault : c.from_residual-in_err-make_volume.result ≡ Err PmFault = search rules in
    subst (Formats old new) (sym fault) (intervals c.requires.settled (after_reserve is c.in_ok-reserve.ensures (unfolds_failed_as PmFault c.in_err-make_volume.ensures.unfolds)))

pub returns-clause-in_turn : goal.returns-clause-in_turn
returns-clause-in_turn g c =
    let geometry = c.in-Some.geometry in
    let is : geometry.pages ≡ length (g.P.Pm.view c.args.pm.now).words / 512 = omega (arith, c.in-Some.ensures.whole, ap length c.image.ensures) in
    after_reserve is c.in_ok-reserve.ensures (unfolds_as tt c.in_ok-make_volume.ensures.unfolds)

module _ {pages P : ℕ} (old mid new : DeviceView) (is : pages ≡ P) (words : mid.words ≡ old.words) (trail : mid.trail ≡ old.trail) where
  moments_as : LeavesOnly mid.trail new.trail (λ _. IsOldHiddenOrFormatted pages mid.words) → LeavesOnly old.trail new.trail (λ _. IsOldHiddenOrFormatted P old.words)
  moments_as leaves =
      subst (λ (p : ℕ). LeavesOnly old.trail new.trail (λ _. IsOldHiddenOrFormatted p old.words)) is
      (subst (λ (w : List ℕ). LeavesOnly old.trail new.trail (λ _. IsOldHiddenOrFormatted pages w)) words
      (subst (λ (t : Option Trail). LeavesOnly t new.trail (λ _. IsOldHiddenOrFormatted pages mid.words)) trail leaves))

pub returns-clause-any_moment : goal.returns-clause-any_moment
returns-clause-any_moment g c =
    let geometry = c.in-Some.geometry in
    let is : geometry.pages ≡ length (g.P.Pm.view c.args.pm.now).words / 512 = omega (arith, c.in-Some.ensures.whole, ap length c.image.ensures) in
    moments_as (g.P.Pm.view c.args.pm.now) (g.P.Pm.view c.reserve.new.self) (g.P.Pm.view c.make_volume.new.pm) is c.reserve.ensures.words c.reserve.ensures.trail c.in_ok-make_volume.ensures.any_moment

pub returns-in_err-make_volume-clause-any_moment : goal.returns-in_err-make_volume-clause-any_moment
returns-in_err-make_volume-clause-any_moment g c =
    let geometry = c.in-Some.geometry in
    let is : geometry.pages ≡ length (g.P.Pm.view c.args.pm.now).words / 512 = omega (arith, c.in-Some.ensures.whole, ap length c.image.ensures) in
    moments_as (g.P.Pm.view c.args.pm.now) (g.P.Pm.view c.reserve.new.self) (g.P.Pm.view c.make_volume.new.pm) is c.reserve.ensures.words c.reserve.ensures.trail c.in_err-make_volume.ensures.any_moment

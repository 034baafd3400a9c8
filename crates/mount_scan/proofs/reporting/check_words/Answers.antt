use Rattle.std.proofs.Common.{◌≡◌, ◌*◌, ℕ, List, sym, ap, subst, ◌∙◌}
use Rattle.std.proofs.lemmas.Result.{err_from_is_err_and}
use Rattle.layout.specs.declared.geometry.Geometry.{Geometry}
use Rattle.image_reading.specs.Soundness.{pages_in_image}
use Rattle.mount_scan.specs.Counting.{AreCountsOf}
use Rattle.mount_scan.specs.Reports.{IsCheckOf}
use Rattle.mount_scan.proofs.Mounts.{head_holds, head_whole, head_pages}
use Rattle.mount_scan.proofs.reporting.check_words.Goals as goal

pub returns-in_err-scan : goal.returns-in_err-scan
returns-in_err-scan c = let p = err_from_is_err_and c.from_residual.result c.from_residual.ensures.1 in subst (IsCheckOf c.args.words.now) (sym p.1) (head_holds _ _ c.in-Some.ensures)

pub first_fault-requires : goal.first_fault-requires
first_fault-requires c = record { made_for = head_whole _ _ c.in-Some.ensures ∙ ap (λ (g : Geometry). 512 * g.pages) (sym c.in_ok-scan.ensures) }

pub scanned-requires-clause-made_for : goal.scanned-requires-clause-made_for
scanned-requires-clause-made_for c = head_whole _ _ c.in-Some.ensures ∙ ap (λ (g : Geometry). 512 * g.pages) (sym (c.first_fault.ensures.made_for ∙ c.in_ok-scan.ensures))

pub returns : goal.returns
returns c =
    let W = c.args.words.now in
    let scanned = c.scanned in
    let counts = c.check_counts.result in
    let geometry = scanned.ensures.geometry ∙ c.first_fault.ensures.made_for ∙ c.in_ok-scan.ensures in
    let pages : scanned.result.image.geometry.pages ≡ pages_in_image W = ap (λ (g : Geometry). g.pages) geometry ∙ sym (head_pages c.in-Some.geometry.pages W c.in-Some.ensures) in (
      c.first_fault.ensures.none.0 c.in_default-first_fault.is,
      subst (λ (n : ℕ). AreCountsOf n W counts) pages (subst (λ (words : List ℕ). AreCountsOf scanned.result.image.geometry.pages words counts) scanned.ensures.words c.check_counts.ensures),
    )

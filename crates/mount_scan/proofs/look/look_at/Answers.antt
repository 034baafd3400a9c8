use Rattle.std.proofs.Common.{◌≡◌, ◌*◌, ℕ, List, sym, ap, subst, ◌∙◌}
use Rattle.std.proofs.lemmas.Result.{err_from_is_err_and}
use Rattle.layout.specs.declared.geometry.Geometry.{Geometry}
use Rattle.layout.specs.Superblock.{has_mark}
use Rattle.image_reading.specs.Soundness.{Sound, pages_in_image}
use Rattle.image_reading.specs.Tidy.{IsTidied}
use Rattle.recovery.specs.declared.repairs.Repairs.{Repairs}
use Rattle.repair_laws.specs.Mended.{IsMended}
use Rattle.recovery.specs.Plans.{IsPlanOf}
use Rattle.mount_scan.proofs.Mounts.{no_head, head_holds, head_whole, head_pages}
use Rattle.mount_scan.proofs.look.look_at.Goals as goal
use Rattle.mount_scan.proofs.look.look_at.Goals.{then-has_mark, else-has_mark+in_ok-repairs}

pub returns-in_default : goal.returns-in_default
returns-in_default c = no_head c.args.words.now c.in_default.ensures

pub returns-in_err-scan : goal.returns-in_err-scan
returns-in_err-scan c = let p = err_from_is_err_and c.from_residual.result c.from_residual.ensures.1 in rw (p.1, p.2) (head_holds _ _ c.in-Some.ensures)

pub first_fault-requires : goal.first_fault-requires
first_fault-requires c = record { made_for = head_whole _ _ c.in-Some.ensures ∙ ap (λ (g : Geometry). 512 * g.pages) (sym c.in_ok-scan.ensures) }

pub returns-in-Some-first_fault : goal.returns-in-Some-first_fault
returns-in-Some-first_fault c = (head_holds _ _ c.in-Some.ensures, c.in-Some-first_fault.ensures.first)

pub scanned-scanned-requires-clause-made_for : goal.scanned-scanned-requires-clause-made_for
scanned-scanned-requires-clause-made_for c = head_whole _ _ c.in-Some.ensures ∙ ap (λ (g : Geometry). 512 * g.pages) (sym (c.first_fault.ensures.made_for ∙ c.in_ok-scan.ensures))

pub returns-in_err-repairs : goal.returns-in_err-repairs
returns-in_err-repairs c = let p = err_from_is_err_and c.from_residual-in_err-repairs.result c.from_residual-in_err-repairs.ensures.1 in rw (p.1, p.2) (head_holds _ _ c.in-Some.ensures)

pub returns-in_err-volume : goal.returns-in_err-volume
returns-in_err-volume c = let p = err_from_is_err_and c.from_residual-in_err-volume.result c.from_residual-in_err-volume.ensures.1 in rw (p.1, p.2) (head_holds _ _ c.in-Some.ensures)

pub returns : goal.returns
returns c =
    let W = c.args.words.now in
    let scanned = c.scanned-scanned in
    let geometry = scanned.ensures.geometry ∙ c.first_fault.ensures.made_for ∙ c.in_ok-scan.ensures in
    let pages : scanned.result.image.geometry.pages ≡ pages_in_image W = ap (λ (g : Geometry). g.pages) geometry ∙ sym (head_pages c.in-Some.geometry.pages W c.in-Some.ensures) in
    let head = head_pages c.in-Some.geometry.pages W c.in-Some.ensures in
    let sound : Sound (pages_in_image W) W = c.first_fault.ensures.none.0 c.in_default-first_fault.is in
    record {
      sound = sound;
      size = c.in_ok-volume.ensures.size ∙ pages;
      going = c.in_ok-volume.ensures.going;
      no_call = c.in_ok-volume.ensures.no_call;
      marked = c.in_ok-volume.ensures.marked ∙ ap has_mark scanned.ensures.words;
      knows = λ K mended. c.in_ok-volume.ensures.knows K
          (subst (λ (words : List ℕ). IsMended scanned.result.image.geometry.pages words K) (sym scanned.ensures.words) (subst (λ (n : ℕ). IsMended n W K) (sym pages) mended));
      made_for = elim c.if-has_mark.branch [
        | then-has_mark w ↦ ap (λ (r : Repairs). r.geometry.pages) w.repairs-is ∙ ap (λ (g : Geometry). g.pages) w.none-repairs.ensures.made_for ∙ sym head
        | else-has_mark+in_ok-repairs w ↦ ap (λ (r : Repairs). r.geometry.pages) w.repairs-is ∙ ap (λ (g : Geometry). g.pages) w.in_ok-repairs.ensures.made_for ∙ pages
      ];
      planned = elim c.if-has_mark.branch [
        | then-has_mark w ↦
            let tidied : IsTidied (pages_in_image W) W = record { coherent = sound.coherent; repaired = sound.mark (sym c.has_mark.ensures ∙ w.if-has_mark.true) } in
            subst (IsPlanOf W) (sym w.repairs-is) (w.none-repairs.ensures.planned (subst (λ (n : ℕ). IsTidied n W) head tidied))
        | else-has_mark+in_ok-repairs w ↦
            subst (IsPlanOf W) (sym w.repairs-is) (subst (λ (words : List ℕ). IsPlanOf words w.in_ok-repairs.repairs) scanned.ensures.words w.in_ok-repairs.ensures.planned)
      ];
    }

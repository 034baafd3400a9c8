use Rattle.std.proofs.Common.{ℕ, refl, sym, subst, ◌∙◌}
use Rattle.std.proofs.lemmas.Bool.{iff_false}
use Rattle.image_reading.specs.Repairs.{HasRepairs, no_repairs}
use Rattle.image_reading.specs.Soundness.{IsCoherent, Sound}
use Rattle.image_reading.proofs.Tidied.{as_tidy, unmarked_sound}
use Rattle.image_reading.proofs.verdict.mark_broken_at.Goals as goal
use Rattle.image_reading.proofs.verdict.mark_broken_at.Goals.{then-not-has_mark-via-then-not-has_mark, then-not-has_mark-via-else-not-has_mark+then-has_no_repairs}

pub returns-then-not-has_mark : goal.returns-then-not-has_mark
returns-then-not-has_mark c =
    let I = c.args.scanned.now.image.words.now in
    subst (λ (n : ℕ). Sound n I) c.requires.whole (elim c.then-not-has_mark.branch [
      | then-not-has_mark-via-then-not-has_mark w ↦ unmarked_sound (sym c.has_mark.ensures ∙ w.if-not-has_mark.true) c.requires.scanned.coherent
      | then-not-has_mark-via-else-not-has_mark+then-has_no_repairs w ↦ (as_tidy (w.has_no_repairs.ensures.0 w.if-has_no_repairs.true)).sound
    ])

pub returns : goal.returns
returns c =
    let I = c.args.scanned.now.image.words.now in
    record {
      coherent = subst (λ (n : ℕ). IsCoherent n I) c.requires.whole c.requires.scanned.coherent;
      marked = sym c.has_mark.ensures ∙ c.if-not-has_mark.false;
      unrepaired = λ repaired. iff_false c.has_no_repairs.ensures c.if-has_no_repairs.false (record {
        coherent = c.requires.scanned.coherent;
        repaired = subst (λ (n : ℕ). HasRepairs n I no_repairs) (sym c.requires.whole) repaired;
      });
      numbered = refl;
      place_is = refl;
    }

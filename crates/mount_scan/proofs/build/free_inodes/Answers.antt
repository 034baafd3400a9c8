use Rattle.std.proofs.Common.{◌+◌, ℕ, sym, subst, ◌∙◌, arith}
use Rattle.std.proofs.lemmas.Bool.{iff_false}
use Rattle.image_reading.specs.Reading.{Reached}
use Rattle.mount_scan.proofs.Frees.{AreFree, free_taken, free_skipped}
use Rattle.mount_scan.proofs.build.free_inodes.Goals as goal
use Rattle.mount_scan.proofs.build.free_inodes.Goals.{then-is_reached, else-is_reached}

pub loop-number-preserved : goal.loop-number-preserved
loop-number-preserved c =
    let image = c.args.scanned.now.image in
    let Q = λ (x : ℕ). ¬ Reached image.geometry.pages image.words.now (x + 1) in
    let count = image.geometry.inodes in
    let number = c.loop-number.number in
    elim c.if-is_reached.branch [
      | then-is_reached w ↦
          subst (AreFree Q count (number + 1)) (sym (w.numbers-is ∙ w.take.ensures.numbers))
          (free_taken Q count number c.loop-number.numbers (omega arith) (λ none. none (c.is_reached.ensures.0 w.if-is_reached.true)) c.loop-number.invariant)
      | else-is_reached w ↦
          subst (AreFree Q count (number + 1)) (sym w.numbers-is)
          (free_skipped Q count number c.loop-number.numbers (omega arith) (iff_false c.is_reached.ensures w.if-is_reached.false) c.loop-number.invariant)
    ]

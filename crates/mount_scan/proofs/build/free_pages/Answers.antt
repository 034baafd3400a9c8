use Rattle.std.proofs.Common.{◌+◌, ℕ, sym, subst, ◌∙◌, arith}
use Rattle.std.proofs.lemmas.Bool.{iff_false}
use Rattle.image_reading.specs.Repairs.{IsKept}
use Rattle.mount_scan.proofs.Frees.{AreFree, free_taken, free_skipped}
use Rattle.mount_scan.proofs.build.free_pages.Goals as goal
use Rattle.mount_scan.proofs.build.free_pages.Goals.{then-is_kept, else-is_kept}

pub loop-page-preserved : goal.loop-page-preserved
loop-page-preserved c =
    let image = c.args.scanned.now.image in
    let Q = λ (x : ℕ). ¬ IsKept image.geometry.pages image.words.now x in
    let count = image.geometry.data_pages in
    let page = c.loop-page.page in
    elim c.if-is_kept.branch [
      | then-is_kept w ↦
          subst (AreFree Q count (page + 1)) (sym (w.numbers-is ∙ w.take.ensures.numbers))
          (free_taken Q count page c.loop-page.numbers (omega arith) (λ none. none (c.is_kept.ensures.0 w.if-is_kept.true)) c.loop-page.invariant)
      | else-is_kept w ↦
          subst (AreFree Q count (page + 1)) (sym w.numbers-is)
          (free_skipped Q count page c.loop-page.numbers (omega arith) (iff_false c.is_kept.ensures w.if-is_kept.false) c.loop-page.invariant)
    ]

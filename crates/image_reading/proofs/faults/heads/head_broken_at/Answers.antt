use Rattle.std.proofs.Common.{sym, ap, ◌∙◌, get_or, arith}
use Rattle.image_reading.proofs.Places as lemmas
use Rattle.image_reading.proofs.faults.heads.head_broken_at.Goals as goal

pub returns-then-image-k : goal.returns-then-image-k
returns-then-image-k c =
    let g = c.args.image.now.geometry in
    let same = ap (λ xs. get_or xs c.loop-k.k 0) c.head-head.ensures in (
      (λ x lt. lemmas.head_there _ _ x g.volume_size c.args.image.now.whole (λ _. c.loop-k.invariant x lt ∙ ap (λ xs. get_or xs x 0) c.head-head.ensures)),
      lemmas.head_not _ _ _ g.volume_size c.args.image.now.whole (omega arith) (λ e. c.if-image-k.true (e ∙ sym same)),
    )

pub returns : goal.returns
returns c = λ x.
    let g = c.args.image.now.geometry in
    lemmas.head_there _ _ x g.volume_size c.args.image.now.whole (λ lt. c.loop-k.invariant x (omega arith) ∙ ap (λ xs. get_or xs x 0) c.head-head.ensures)

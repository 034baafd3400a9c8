use Rattle.std.proofs.Common.{sym, ◌∙◌}
use Rattle.image_reading.proofs.Places as lemmas
use Rattle.image_reading.proofs.held.has_pointer.Goals as goal

pub returns : goal.returns
returns c =
    let is = c.slot_at.ensures.pointer in (
      (λ t. record { held = c.is_held.ensures.0 c.if-not-is_held.false; nonzero = λ e. lemmas.not_zero _ t (is ∙ e) }),
      (λ p. lemmas.is_not_zero _ (λ e. p.nonzero (sym is ∙ e))),
    )

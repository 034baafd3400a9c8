use Rattle.std.proofs.Common.{sym, ◌∙◌, arith}
use Rattle.std.proofs.lemmas.Bool.{false≢true}
use Rattle.image_reading.proofs.Places as lemmas
use Rattle.image_reading.proofs.held.is_held.Goals as goal

pub returns-then-descriptor-ne-SLOTS : goal.returns-then-descriptor-ne-SLOTS
returns-then-descriptor-ne-SLOTS c = (
  (λ t. absurd (false≢true t)),
  (λ h. absurd (let kind = lemmas.held-kind _ _ _ _ c.page_of-page.ensures.is h in omega (arith, kind, c.descriptor_at-descriptor.ensures.kind))),
)

pub returns : goal.returns
returns c =
    let d = c.descriptor_at-descriptor in (
      (λ t. lemmas.held _ _ _ _ c.page_of-page.ensures.is (omega (arith, c.slots.ensures)) (omega (arith, d.ensures.kind)) (λ e. lemmas.not_zero _ t (d.ensures.owner ∙ e))),
      (λ h. lemmas.is_not_zero _ (λ e. lemmas.held-owner _ _ _ _ c.page_of-page.ensures.is h (sym d.ensures.owner ∙ e))),
    )

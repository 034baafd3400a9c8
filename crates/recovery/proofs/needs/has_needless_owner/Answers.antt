use Rattle.std.proofs.Common.{sym, ◌∙◌}
use Rattle.std.proofs.lemmas.Bool.{false≢true, iff_false}
use Rattle.image_reading.proofs.Places.{not_zero, is_not_zero}
use Rattle.recovery.proofs.needs.has_needless_owner.Goals as goal

pub returns-then-is_kept : goal.returns-then-is_kept
returns-then-is_kept c = (
  (λ t. absurd (false≢true t)),
  (λ needless. absurd (needless.page.free (c.is_kept.ensures.0 c.if-is_kept.true))),
)

pub returns : goal.returns
returns c =
    let owner = c.descriptor_at.ensures.owner in (
      (λ t. record {
        page = record { in_range = c.requires.in_range; free = iff_false c.is_kept.ensures c.if-is_kept.false };
        owned = λ zero. not_zero _ t (owner ∙ zero);
      }),
      (λ needless. is_not_zero _ (λ zero. needless.owned (sym owner ∙ zero))),
    )

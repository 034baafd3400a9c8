use Rattle.std.proofs.lemmas.Bool.{false≢true, iff_false, not-true, not_from_false, false_from_ne_true}
use Rattle.recovery.proofs.Needing.{some_of_page}
use Rattle.recovery.proofs.needs.has_needless_kind.Goals as goal

pub returns-then-is_zero_descriptor_from : goal.returns-then-is_zero_descriptor_from
returns-then-is_zero_descriptor_from c = (
  (λ t. absurd (false≢true t)),
  (λ needless. let (f, low, small, some) = needless.nonzero in absurd (some (c.is_zero_descriptor_from.ensures.0 c.if-is_zero_descriptor_from.true f low small))),
)

pub returns : goal.returns
returns c = (
  (λ t. record {
    page = record { in_range = c.requires.in_range; free = iff_false c.is_kept.ensures (not-true _ t) };
    nonzero = some_of_page _ _ c.args.page (iff_false c.is_zero_descriptor_from.ensures c.if-is_zero_descriptor_from.false);
  }),
  (λ needless. not_from_false _ (false_from_ne_true _ (λ kept. needless.page.free (c.is_kept.ensures.0 kept)))),
)

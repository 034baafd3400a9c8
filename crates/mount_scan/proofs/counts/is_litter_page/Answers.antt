use Rattle.std.proofs.Common.{arith}
use Rattle.std.proofs.lemmas.Bool.{iff_false, not-true, not_from_false, false_from_ne_true}
use Rattle.mount_scan.proofs.Told.{litter_page}
use Rattle.mount_scan.proofs.counts.is_litter_page.Goals as goal

pub returns : goal.returns
returns c = (
  (λ t. litter_page _ _ c.args.page c.requires.in_range (iff_false c.is_kept.ensures c.if-is_kept.false) (iff_false c.is_zero_descriptor_from.ensures (not-true _ t))),
  (λ litter. let (f, lt, other) = litter.nonzero in not_from_false _ (false_from_ne_true _ (λ zeros. other (c.is_zero_descriptor_from.ensures.0 zeros f (omega arith) lt)))),
)

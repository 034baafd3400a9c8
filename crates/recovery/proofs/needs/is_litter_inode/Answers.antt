use Rattle.std.proofs.lemmas.Bool.{false≢true, iff_false, not-true, not_from_false, false_from_ne_true}
use Rattle.recovery.proofs.Needing.{some_of_inode}
use Rattle.recovery.proofs.needs.is_litter_inode.Goals as goal

pub returns-then-is_reached : goal.returns-then-is_reached
returns-then-is_reached c = (
  (λ t. absurd (false≢true t)),
  (λ litter. absurd (litter.unreached (c.is_reached.ensures.0 c.if-is_reached.true))),
)

pub returns : goal.returns
returns c = (
  (λ t. record {
    least = c.requires.inode.0;
    most = c.requires.inode.1;
    unreached = iff_false c.is_reached.ensures c.if-is_reached.false;
    nonzero = some_of_inode _ c.args.inode (iff_false c.is_zero_inode.ensures (not-true _ t));
  }),
  (λ litter. let (f, small, some) = litter.nonzero in not_from_false _ (false_from_ne_true _ (λ zero. some (c.is_zero_inode.ensures.0 zero f small)))),
)

use Rattle.std.proofs.Common.{◌+◌, refl, arith}
use Rattle.std.proofs.lemmas.Bool.{false≢true, iff_false}
use Rattle.image_reading.proofs.Tidying.{one_inode_more, all_inodes}
use Rattle.image_reading.proofs.tidy.has_tidy_inodes.Goals as goal

pub returns-then-not-is_tidy_inode : goal.returns-then-not-is_tidy_inode
returns-then-not-is_tidy_inode c = (
  (λ t. absurd (false≢true t)),
  (λ all. absurd (iff_false c.is_tidy_inode.ensures c.if-not-is_tidy_inode.true (all (c.loop-number.number + 1)))),
)

pub loop-number-preserved : goal.loop-number-preserved
loop-number-preserved c = one_inode_more _ _ c.loop-number.number c.loop-number.invariant (c.is_tidy_inode.ensures.0 c.if-not-is_tidy_inode.false)

pub returns : goal.returns
returns c = ((λ t. all_inodes _ _ c.loop-number.number c.requires.coherent (omega arith) c.loop-number.invariant), (λ all. refl))

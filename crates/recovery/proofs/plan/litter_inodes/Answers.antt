use Rattle.std.proofs.Common.{inl, inr, ◌+◌, ap, ◌∙◌}
use Rattle.std.proofs.lemmas.Bool.{iff_false}
use Rattle.recovery.proofs.Listing.{list_step}
use Rattle.recovery.proofs.plan.litter_inodes.Goals as goal
use Rattle.recovery.proofs.plan.litter_inodes.Goals.{then-is_litter_inode+in_ok-push, else-is_litter_inode}

pub loop-number-preserved : goal.loop-number-preserved
loop-number-preserved c = list_step _ (c.loop-number.number + 1) c.loop-number.inodes.items c.if-is_litter_inode.inodes.items (elim c.if-is_litter_inode.branch [
  | then-is_litter_inode+in_ok-push w ↦ inl (c.is_litter_inode.ensures.0 w.if-is_litter_inode.true, ap (λ v. v.items) w.inodes-is ∙ w.in_ok-push.ensures.items)
  | else-is_litter_inode w ↦ inr (iff_false c.is_litter_inode.ensures w.if-is_litter_inode.false, ap (λ v. v.items) w.inodes-is)
]) c.loop-number.invariant

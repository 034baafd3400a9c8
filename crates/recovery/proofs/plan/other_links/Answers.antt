use Rattle.std.proofs.Common.{inl, inr, ◌+◌, ap, ◌∙◌, arith}
use Rattle.std.proofs.lemmas.Bool.{iff_false}
use Rattle.recovery.proofs.Listing.{list_none, list_step, list_all}
use Rattle.recovery.proofs.Needing.{linked_inode}
use Rattle.recovery.proofs.plan.other_links.Goals as goal
use Rattle.recovery.proofs.plan.other_links.Goals.{then-has_other_links+in_ok-push, else-has_other_links}

pub loop-number-init : goal.loop-number-init
loop-number-init c = list_none _ 1 _ c.new-inodes.ensures.items (λ i lt litter. let least = (linked_inode _ _ c.requires.coherent i litter).0 in omega (arith, lt, least))

pub loop-number-preserved : goal.loop-number-preserved
loop-number-preserved c = list_step _ (c.loop-number.number + 1) c.loop-number.inodes.items c.if-has_other_links.inodes.items (elim c.if-has_other_links.branch [
  | then-has_other_links+in_ok-push w ↦ inl (c.has_other_links.ensures.0 w.if-has_other_links.true, ap (λ v. v.items) w.inodes-is ∙ w.in_ok-push.ensures.items)
  | else-has_other_links w ↦ inr (iff_false c.has_other_links.ensures w.if-has_other_links.false, ap (λ v. v.items) w.inodes-is)
]) c.loop-number.invariant

pub returns : goal.returns
returns c = list_all _ _ _ (λ i litter. let most = (linked_inode _ _ c.requires.coherent i litter).1 in omega (arith, most, c.loop-number-test.false, c.args.scanned.now.image.geometry.inodes_exact)) c.loop-number.invariant

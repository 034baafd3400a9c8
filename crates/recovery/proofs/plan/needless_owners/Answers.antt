use Rattle.std.proofs.Common.{inl, inr, ap, ◌∙◌}
use Rattle.std.proofs.lemmas.Bool.{iff_false}
use Rattle.recovery.proofs.Listing.{list_step}
use Rattle.recovery.proofs.plan.needless_owners.Goals as goal
use Rattle.recovery.proofs.plan.needless_owners.Goals.{then-has_needless_owner+in_ok-push, else-has_needless_owner}

pub loop-page-preserved : goal.loop-page-preserved
loop-page-preserved c = list_step _ c.loop-page.page c.loop-page.pages.items c.if-has_needless_owner.pages.items (elim c.if-has_needless_owner.branch [
  | then-has_needless_owner+in_ok-push w ↦ inl (c.has_needless_owner.ensures.0 w.if-has_needless_owner.true, ap (λ v. v.items) w.pages-is ∙ w.in_ok-push.ensures.items)
  | else-has_needless_owner w ↦ inr (iff_false c.has_needless_owner.ensures w.if-has_needless_owner.false, ap (λ v. v.items) w.pages-is)
]) c.loop-page.invariant

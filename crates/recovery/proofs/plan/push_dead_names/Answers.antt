use Rattle.std.proofs.Common.{◌≡◌, inl, inr, ℕ, ◌+◌, ◌*◌, sym, ap, subst, ◌∙◌, arith}
use Rattle.std.proofs.lemmas.Bool.{iff_false}
use Rattle.repair_laws.specs.Stored.{HasDeadName}
use Rattle.recovery.specs.Listing.{IsListBelow}
use Rattle.recovery.proofs.Listing.{list_step}
use Rattle.recovery.proofs.plan.push_dead_names.Goals as goal
use Rattle.recovery.proofs.plan.push_dead_names.Goals.{then-has_dead_name+in_ok-push, else-has_dead_name}

pub loop-place-preserved : goal.loop-place-preserved
loop-place-preserved c =
    let image = c.args.scanned.now.image in
    let Q = HasDeadName image.geometry.pages image.words.now in
    let slot = c.slot_in-slot.result in
    let old = c.loop-place.slots.items in
    let new = c.if-has_dead_name.slots.items in
    let next : slot + 1 ≡ 32 * c.args.page + (c.loop-place.place + 1) = omega (arith, c.slot_in-slot.ensures.is) in
    subst (λ (limit : ℕ). IsListBelow Q limit new) next (list_step Q slot old new (elim c.if-has_dead_name.branch [
      | then-has_dead_name+in_ok-push w ↦ inl (c.has_dead_name.ensures.0 w.if-has_dead_name.true, ap (λ v. v.items) w.slots-is ∙ w.in_ok-push.ensures.items)
      | else-has_dead_name w ↦ inr (iff_false c.has_dead_name.ensures w.if-has_dead_name.false, ap (λ v. v.items) w.slots-is)
    ]) (subst (λ (limit : ℕ). IsListBelow Q limit old) (sym c.slot_in-slot.ensures.is) c.loop-place.invariant))

use Rattle.std.proofs.Common.{◌+◌, below_more, arith}
use Rattle.std.proofs.lemmas.Bool.{iff_false}
use Rattle.image_reading.proofs.Places.{holds_at_all, past-points}
use Rattle.image_reading.proofs.HeldPages as lemmas
use Rattle.image_reading.proofs.faults.pointers.pointers_broken_at.Goals as goal

pub loop-slot-init : goal.loop-slot-init
loop-slot-init c =
    let P = c.args.image.now.geometry.pages in
    let I = c.args.image.now.words.now in
    record {
      within = c.next_held-slot.ensures.in_range;
      kept = lemmas.up_to P I _ (lemmas.points_free P I) 0 _ (λ x lt. absurd (omega (arith, lt))) c.next_held-slot.ensures.passed;
    }

pub returns-then-not-points_at_held : goal.returns-then-not-points_at_held
returns-then-not-points_at_held c = (c.loop-slot.invariant.kept, iff_false c.points_at_held.ensures c.if-not-points_at_held.true)

pub loop-slot-preserved : goal.loop-slot-preserved
loop-slot-preserved c =
    let P = c.args.image.now.geometry.pages in
    let I = c.args.image.now.words.now in
    record {
      within = c.next_held-slot-in-loop-slot.ensures.in_range;
      kept = lemmas.up_to P I _ (lemmas.points_free P I) (c.loop-slot.slot + 1) _ (below_more _ _ c.loop-slot.invariant.kept (c.points_at_held.ensures.0 c.if-not-points_at_held.false)) c.next_held-slot-in-loop-slot.ensures.passed;
    }

pub returns : goal.returns
returns c = holds_at_all _ _ c.loop-slot.invariant.kept (λ x le. past-points _ _ x (omega (arith, le, c.loop-slot-test.false, c.slots.ensures)))

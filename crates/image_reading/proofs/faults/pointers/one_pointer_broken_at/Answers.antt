use Rattle.std.proofs.Common.{◌+◌, sym, subst, ◌∙◌, below_more, arith}
use Rattle.std.proofs.lemmas.Bool.{iff_false}
use Rattle.image_reading.proofs.Places.{holds_at_all}
use Rattle.image_reading.proofs.HeldPages as lemmas
use Rattle.image_reading.proofs.faults.pointers.one_pointer_broken_at.Goals as goal
use Rattle.image_reading.proofs.faults.pointers.one_pointer_broken_at.Goals.{then-has_pointer+else-is_some, else-has_pointer}

pub loop-slot-init : goal.loop-slot-init
loop-slot-init c =
    let P = c.args.image.now.geometry.pages in
    let I = c.args.image.now.words.now in
    record {
      within = c.next_held-slot.ensures.in_range;
      kept = lemmas.up_to P I _ (lemmas.only_free P I) 0 _ (λ x lt. absurd (omega (arith, lt))) c.next_held-slot.ensures.passed;
      pointer = lemmas.up_to P I _ (lemmas.pointer_free P I) 0 _ (λ x lt. absurd (omega (arith, lt))) c.next_held-slot.ensures.passed;
    }

pub returns-then-is_some-clause-found : goal.returns-then-is_some-clause-found
returns-then-is_some-clause-found c = (
  c.loop-slot.invariant.kept,
  lemmas.second c.args.image.now.geometry.pages c.args.image.now.words.now c.loop-slot.slot c.loop-slot.found (sym c.is_some.ensures ∙ c.if-is_some.true) c.loop-slot.invariant.pointer (c.has_pointer.ensures.0 c.if-has_pointer.true),
)

pub loop-slot-preserved : goal.loop-slot-preserved
loop-slot-preserved c =
    let P = c.args.image.now.geometry.pages in
    let I = c.args.image.now.words.now in
    let s = c.loop-slot.slot in
    let m = c.next_held-slot-in-loop-slot.result in
    let next = c.next_held-slot-in-loop-slot.ensures in
    let before = c.loop-slot.invariant in
    elim c.if-has_pointer.branch [
      | then-has_pointer+else-is_some w ↦
          let here = c.has_pointer.ensures.0 w.if-has_pointer.true in
          let only = lemmas.first_only P I s c.loop-slot.found (sym w.is_some.ensures ∙ w.if-is_some.false) before.pointer in
          record {
            within = next.in_range;
            kept = lemmas.up_to P I _ (lemmas.only_free P I) (s + 1) m (below_more _ _ before.kept only) next.passed;
            pointer = subst (lemmas.IsPointerBelow P I m) (sym w.found-is) (omega (arith, next.later), here);
          }
      | else-has_pointer w ↦
          let none = iff_false c.has_pointer.ensures w.if-has_pointer.false in
          record {
            within = next.in_range;
            kept = lemmas.up_to P I _ (lemmas.only_free P I) (s + 1) m (below_more _ _ before.kept (lemmas.no_pointer P I s none)) next.passed;
            pointer = subst (lemmas.IsPointerBelow P I m) (sym w.found-is) (lemmas.below_later P I s m c.loop-slot.found next.later before.pointer none next.passed);
          }
    ]

pub returns-clause-found : goal.returns-clause-found
returns-clause-found c =
    holds_at_all _ _ c.loop-slot.invariant.kept
    (λ x past. lemmas.only_free c.args.image.now.geometry.pages c.args.image.now.words.now x (λ h. let lt = h.in_range in omega (arith, past, lt, c.loop-slot-test.false, c.slots.ensures)))

pub returns-clause-pointer : goal.returns-clause-pointer
returns-clause-pointer c none =
    lemmas.all_below c.args.image.now.geometry.pages c.args.image.now.words.now c.loop-slot.slot c.loop-slot.found (omega (arith, c.loop-slot-test.false, c.slots.ensures)) c.loop-slot.invariant.pointer

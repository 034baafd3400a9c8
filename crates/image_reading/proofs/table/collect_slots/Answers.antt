use Rattle.std.proofs.Common.{ℕ, ◌+◌, ◌<◌, [], ◌∷◌, ◌++◌, Vec, Global, vec_len, vec_capacity, sym, ap, subst, ◌∙◌, arith, rules}
use Rattle.std.proofs.lemmas.Bool.{iff_false}
use Rattle.image_reading.proofs.ReachedTable as lemmas
use Rattle.image_reading.proofs.table.collect_slots.Goals as goal
use Rattle.image_reading.proofs.table.collect_slots.Goals.{then-is_reached_slot, else-is_reached_slot}

pub overflow_cast-slot : goal.overflow_cast-slot
overflow_cast-slot c =
    let g = c.args.walked.now.image.geometry in
    let few = lemmas.slots_below g.pages g.volume_size in
    let small : c.loop-slot.slot < 2097152 = omega (arith, few, c.loop-slot-test.true, c.slots.ensures) in
    search (rules, small)

pub loop-slot-init : goal.loop-slot-init
loop-slot-init c =
    let P = c.args.walked.now.image.geometry.pages in
    let I = c.args.walked.now.image.words.now in
    let next = c.next_held-slot.ensures in
    record {
      within = next.in_range;
      table = subst (lemmas.AreReachedBelow P I c.next_held-slot.result) (sym c.clear.ensures.items) (lemmas.held_up_to P I 0 c.next_held-slot.result [] next.later next.passed (lemmas.none_below P I));
      len = (let none = c.clear.ensures.len in omega (arith, none));
      capacity = c.clear.ensures.capacity;
    }

pub push_reserved-requires : goal.push_reserved-requires
push_reserved-requires c = omega (arith, c.loop-slot.invariant.len, c.loop-slot.invariant.capacity, c.requires.room, c.loop-slot-test.true, c.slots.ensures)

pub loop-slot-preserved : goal.loop-slot-preserved
loop-slot-preserved c =
    let P = c.args.walked.now.image.geometry.pages in
    let I = c.args.walked.now.image.words.now in
    let s = c.loop-slot.slot in
    let m = c.next_held-slot-in-loop-slot.result in
    let next = c.next_held-slot-in-loop-slot.ensures in
    let inv = c.loop-slot.invariant in
    let old = c.loop-slot.slots in
    elim c.if-is_reached_slot.branch [
      | then-is_reached_slot w ↦
          let here = c.is_reached_slot.ensures.0 w.if-is_reached_slot.true in
          let pushed = w.push_reserved.ensures in record {
            within = next.in_range;
            table = subst (λ (v : Vec ℕ Global). lemmas.AreReachedBelow P I m v.items) (sym w.slots-is)
                (subst (lemmas.AreReachedBelow P I m) (sym pushed.items)
                (lemmas.held_up_to P I (s + 1) m (old.items ++ s ∷ []) next.later next.passed (lemmas.below_push P I s old.items here inv.table)));
            len = (let is = ap (λ (v : Vec ℕ Global). vec_len v) w.slots-is in omega (arith, is, pushed.len, inv.len, next.later));
            capacity = ap (λ (v : Vec ℕ Global). vec_capacity v) w.slots-is ∙ pushed.capacity ∙ inv.capacity;
          }
      | else-is_reached_slot w ↦
          let none = iff_false c.is_reached_slot.ensures w.if-is_reached_slot.false in record {
            within = next.in_range;
            table = subst (λ (v : Vec ℕ Global). lemmas.AreReachedBelow P I m v.items) (sym w.slots-is)
                (lemmas.held_up_to P I (s + 1) m old.items next.later next.passed (lemmas.below_same P I s old.items none inv.table));
            len = (let is = ap (λ (v : Vec ℕ Global). vec_len v) w.slots-is in omega (arith, is, inv.len, next.later));
            capacity = ap (λ (v : Vec ℕ Global). vec_capacity v) w.slots-is ∙ inv.capacity;
          }
    ]

pub returns-clause-slots : goal.returns-clause-slots
returns-clause-slots c =
    lemmas.below_all c.args.walked.now.image.geometry.pages c.args.walked.now.image.words.now c.loop-slot.slot c.loop-slot.slots.items (omega (arith, c.loop-slot-test.false, c.slots.ensures)) c.loop-slot.invariant.table

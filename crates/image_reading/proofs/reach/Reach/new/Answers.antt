use Rattle.std.proofs.Common.{sym, ap, ◌∙◌}
use Rattle.image_reading.specs.Marks.{marked}
use Rattle.image_reading.proofs.Marked.{marked_none}
use Rattle.image_reading.proofs.reach.Reach.new.Goals as goal

pub invariant_of-result : goal.invariant_of-result
invariant_of-result c = record {
  counted = ap marked (c.in_ok-reached.ensures.items_if_clones_equal (λ y e. e)) ∙ marked_none c.args.numbers;
  room = c.in_ok-order.ensures.len ∙ sym c.in_ok-reached.ensures.len;
}

use Rattle.std.proofs.Common.{length, ap, ◌∙◌}
use Rattle.image_reading.specs.Marks.{marked}
use Rattle.image_reading.proofs.Marked as lemmas
use Rattle.image_reading.proofs.reach.Reach.clear.Goals as goal

pub invariant_of-self : goal.invariant_of-self
invariant_of-self c = record {
  counted =
      ap marked (lemmas.refilled _ c.fill.new.self c.args.self.now.reached.items (c.fill.ensures.len ∙ c.as_mut_slice.ensures.len)) ∙ ap marked (c.fill.ensures.after (λ y e. e))
      ∙ lemmas.marked_none (length c.as_mut_slice.result.now);
  room = c.args.self.now.room;
}

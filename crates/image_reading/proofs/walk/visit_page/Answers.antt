use Rattle.std.proofs.Common.{arith}
use Rattle.image_reading.proofs.Walked as lemmas
use Rattle.image_reading.proofs.walk.visit_page.Goals as goal

pub visit_slot-requires-clause-slot : goal.visit_slot-requires-clause-slot
visit_slot-requires-clause-slot c =
    lemmas.slot_of_page c.args.image.now.geometry.pages c.args.image.now.words.now c.args.page c.slot_in.result c.slot_in.ensures.page c.slot_in.ensures.in_range c.requires.page

pub returns : goal.returns
returns c =
    let so_far = c.loop-entry.invariant in
    record {
      walk = so_far.walk;
      extends = so_far.extends;
      taken = lemmas.all_taken c.args.image.now.geometry.pages c.args.image.now.words.now c.loop-entry.reach c.args.page
          (λ k lt. so_far.taken k (omega (arith, lt, c.loop-entry-test.false)));
    }

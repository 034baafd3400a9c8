use Rattle.std.proofs.Common.{length, refl, ap, ◌∙◌}
use Rattle.std.proofs.lemmas.Bool.{false≢true}
use Rattle.image_reading.specs.Soundness.{Rule, pages_in_image}
use Rattle.recovery.proofs.plan.plan_repairs.Goals as goal

pub unreachable-requires : goal.unreachable-requires
unreachable-requires g c =
    let head = c.requires.coherent Rule.head 0 in
    let pages = pages_in_image (g.P.Pm.view c.args.pm.now).words in
    false≢true (c.in_default.ensures.possible.1 (pages, head.size refl, ap length c.image-words.ensures ∙ head.whole refl))

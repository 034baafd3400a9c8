use Rattle.std.proofs.Common.{ap, sym, ◌∙◌}
use Rattle.tree_model.specs.PathText.{unescaped}
use Rattle.tree_model.specs.PathScan.{behind}
use Rattle.tree_model.proofs.PathLaws.{behind_front}
use Rattle.tree_model.proofs.path.unescaped_name.Goals as goal

pub loop-rest-preserved : goal.loop-rest-preserved
loop-rest-preserved c =
    c.loop-rest.invariant ∙ ap (behind c.loop-rest.bytes.items) c.in-Some.ensures.value
    ∙ behind_front c.loop-rest.bytes.items c.in-Some.byte (unescaped c.in-Some.after.now)
    ∙ ap (λ front. behind front (unescaped c.in-Some.after.now)) (sym c.push.ensures.items)

use Rattle.std.proofs.Common.{◌+◌, ◌<◌, ◌≤◌, ◌∙◌, sym, ap, take, length, arith}
use Rattle.tree_model.specs.Walk.{place_at}
use Rattle.tree_model.specs.declared.reply.Refusal.TheVariants.{NotDir, NotFound}
use Rattle.plain_tree.proofs.WalkLaws.{walk-fault, walk-next, walk-file}
use Rattle.plain_tree.proofs.walks.walk.Goals as goal

pub returns-then-not-is_directory : goal.returns-then-not-is_directory
returns-then-not-is_directory c =
    let k = c.loop.depth in
    let counted = c.loop.invariant.2 in
    let given = ap length c.into_iter-iterator.ensures.into_iter_gives in
    let step = ap length c.in-Some.ensures.steps in
    let next : k + 1 ≤ length c.args.steps = omega (arith, counted, given, step) in
    let within = c.requires.within in
    let low : k < length c.args.path.now = omega (arith, next, within) in
    walk-fault c.args.tree.now c.args.path.now (k + 1) (length c.args.steps) NotDir next
    (walk-file c.args.tree.now c.args.path.now k c.loop.id low c.loop.invariant.4 (sym c.is_directory.ensures ∙ c.if-not-is_directory.true))

pub returns-in_default : goal.returns-in_default
returns-in_default c =
    let k = c.loop.depth in
    let counted = c.loop.invariant.2 in
    let given = ap length c.into_iter-iterator.ensures.into_iter_gives in
    let step = ap length c.in-Some.ensures.steps in
    let next : k + 1 ≤ length c.args.steps = omega (arith, counted, given, step) in
    let within = c.requires.within in
    let low : k < length c.args.path.now = omega (arith, next, within) in
    walk-fault c.args.tree.now c.args.path.now (k + 1) (length c.args.steps) NotFound next
    (walk-next c.args.tree.now c.args.path.now k c.loop.id low c.loop.invariant.4 c.id_at.result (sym c.is_directory.ensures ∙ c.if-not-is_directory.false) (sym c.id_at.ensures.is)
    ∙ ap (place_at (take (k + 1) c.args.path.now)) c.in_default.is)

pub loop-preserved : goal.loop-preserved
loop-preserved c =
    let k = c.loop.depth in
    let counted = c.loop.invariant.2 in
    let given = ap length c.into_iter-iterator.ensures.into_iter_gives in
    let step = ap length c.in-Some.ensures.steps in
    let next : k + 1 ≤ length c.args.steps = omega (arith, counted, given, step) in
    let within = c.requires.within in
    let low : k < length c.args.path.now = omega (arith, next, within) in (
      tt,
      tt,
      omega (arith, counted, step),
      c.in-Some-id_at.ensures.grows,
      walk-next c.args.tree.now c.args.path.now k c.loop.id low c.loop.invariant.4 c.id_at.result (sym c.is_directory.ensures ∙ c.if-not-is_directory.false) (sym c.id_at.ensures.is)
          ∙ ap (place_at (take (k + 1) c.args.path.now)) c.in-Some-id_at.is,
    )

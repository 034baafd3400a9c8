use Rattle.std.proofs.Common.{◌∙◌, ap, length, take}
use Rattle.tree_model.proofs.TreeLaws.{is_same}
use Rattle.plain_tree.proofs.FrontLaws.{is_front_then, is_front_else}
use Rattle.plain_tree.proofs.fronts.is_front.Goals as goal

pub returns-then-is_long-clause-is : goal.returns-then-is_long-clause-is
returns-then-is_long-clause-is c =
    let begins = c.begins_with.ensures ∙ ap (λ names. is_same (take (length c.args.route.now) names) c.args.route.now) c.names.ensures in
    is_front_then c.args.front c.args.path.now c.args.route.now c.begins_with.result c.is_long.result c.requires.within begins c.is_long.ensures c.if-is_long.true

pub returns-else-is_long-clause-is : goal.returns-else-is_long-clause-is
returns-else-is_long-clause-is c = is_front_else c.args.front c.args.path.now c.args.route.now c.is_long.result c.is_long.ensures c.if-is_long.false

use Rattle.std.proofs.Common.{◌∙◌}
use Rattle.plain_tree.proofs.RouteLaws.{routes_test}
use Rattle.plain_tree.proofs.lookups.is_same_route.Goals as goal

pub returns : goal.returns
returns c = c.eq.ensures ∙ routes_test c.args.route.now c.args.other.now

use Rattle.plain_tree.proofs.RouteLaws.{parent-is_front}
use Rattle.plain_tree.proofs.routes.parent.Goals as goal

pub returns-in-len1-up : goal.returns-in-len1-up
returns-in-len1-up c = parent-is_front c.args.route.now

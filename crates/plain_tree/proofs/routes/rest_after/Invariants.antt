use Rattle.std.proofs.Common.{◌≡◌, drop}
use Rattle.tree_model.specs.Tree.{rest_after}
use Rattle.plain_tree.proofs.routes.rest_after.Given as goal

-- what is found in the whole is what is found in what is left
abbrev pub invariant-loop-name : goal.invariant-loop-name
invariant-loop-name l = rest_after l.front l.route ≡ rest_after (drop l.name-index l.front) l.left

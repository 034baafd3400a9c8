use Rattle.std.proofs.Common.{◌≡◌, ◌++◌}
use Rattle.plain_tree.proofs.routes.route_of.Given as goal

-- what is read and what is left are the whole
abbrev pub invariant-loop-name : goal.invariant-loop-name
invariant-loop-name l = l.route.items ++ l.name-iterator ≡ l.path

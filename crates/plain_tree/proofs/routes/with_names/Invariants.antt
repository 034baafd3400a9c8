use Rattle.std.proofs.Common.{◌≡◌, ◌++◌, take}
use Rattle.plain_tree.proofs.routes.with_names.Given as goal

abbrev pub invariant-loop-name : goal.invariant-loop-name
invariant-loop-name l = l.route.items ≡ l.initial.route.items ++ take l.name-index l.more

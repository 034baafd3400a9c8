use Rattle.std.proofs.Common.{◌≡◌, length}
use Rattle.std.specs.FinMap.Entries.{find}
use Rattle.tree_model.specs.Tree.{route_cmp}
use Rattle.plain_tree.proofs.lookups.id_at_route.Given as goal

-- what is found in the whole is what is found in what is left
abbrev pub invariant-loop-left : goal.invariant-loop-left
invariant-loop-left l = find route_cmp l.route l.entries ≡ find route_cmp l.route l.left

abbrev pub decreases-loop-left : goal.decreases-loop-left
decreases-loop-left l = length l.left

use Rattle.std.proofs.Common.{◌≡◌, ◌-◌, length, take, drop}
use Rattle.std.specs.Ordering.{eq_by_cmp}
use Rattle.tree_model.specs.Tree.{route_cmp}
use Rattle.plain_tree.proofs.fronts.begins_with.Given as goal

-- the answer for the whole is that for what is left
abbrev pub invariant-loop-name : goal.invariant-loop-name
invariant-loop-name l = eq_by_cmp route_cmp (take (length l.route) l.initial.names) l.route
    ≡ eq_by_cmp route_cmp (take (length l.route - l.name-index) l.names) (drop l.name-index l.route)

use Rattle.std.proofs.Common.{◌≡◌}
use Rattle.tree_model.specs.Tree.{is_above as is_above_in}
use Rattle.plain_tree.proofs.walks.is_above.Given as goal

abbrev pub invariant-loop-name : goal.invariant-loop-name
invariant-loop-name l =
    (goal.iterator-loop-name).can_next l.names × (goal.iterator-loop-name).is_finite l.names × (is_above_in l.path l.other ≡ is_above_in l.names l.others)

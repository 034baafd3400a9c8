use Rattle.std.proofs.Common.{◌≡◌, length}
use Rattle.tree_model.specs.Step.{first}
use Rattle.plain_tree.proofs.row.first.Given as goal

-- the first fault of the whole is that of what is left
abbrev pub invariant-loop-left : goal.invariant-loop-left
invariant-loop-left l = first l.faults ≡ first l.left

abbrev pub decreases-loop-left : goal.decreases-loop-left
decreases-loop-left l = length l.left

use Rattle.std.proofs.Common.{◌≡◌, ◌-◌, take, sum_by}
use Rattle.tree_model.specs.Tree.{node_pages}
use Rattle.plain_tree.proofs.tables.counts.without_files.Given as goal

abbrev pub invariant-loop-entry : goal.invariant-loop-entry
invariant-loop-entry l = l.left ≡ l.pages - sum_by (λ e. node_pages e.1) (take l.entry-index l.entries)

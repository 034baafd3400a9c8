use Rattle.std.proofs.Common.{◌≡◌, ◌-◌, take, sum_by}
use Rattle.plain_tree.proofs.tables.counts.without_directories.Given as goal

abbrev pub invariant-loop-entry : goal.invariant-loop-entry
invariant-loop-entry l = l.left ≡ l.pages - sum_by (λ e. e.1) (take l.entry-index l.entries)

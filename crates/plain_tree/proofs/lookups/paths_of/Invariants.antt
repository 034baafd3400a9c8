use Rattle.std.proofs.Common.{◌≡◌, ◌==◌, take, count_by}
use Rattle.plain_tree.proofs.lookups.paths_of.Given as goal

abbrev pub invariant-loop-entry : goal.invariant-loop-entry
invariant-loop-entry l = l.count ≡ count_by (λ e. e.1 == l.id) (take l.entry-index l.entries)

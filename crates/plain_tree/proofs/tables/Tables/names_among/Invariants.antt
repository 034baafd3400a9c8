use Rattle.std.proofs.Common.{◌≡◌, take, count_by}
use Rattle.tree_model.specs.Tree.{is_in}
use Rattle.plain_tree.proofs.tables.Tables.names_among.Given as goal

abbrev pub invariant-loop-entry : goal.invariant-loop-entry
invariant-loop-entry l = l.count ≡ count_by (λ e. is_in l.self l.directory e.0) (take l.entry-index l.entries)

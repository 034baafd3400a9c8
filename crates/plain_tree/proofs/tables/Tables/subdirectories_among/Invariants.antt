use Rattle.std.proofs.Common.{◌≡◌, ◌&&◌, take, count_by}
use Rattle.tree_model.specs.Tree.{is_in, is_directory}
use Rattle.plain_tree.proofs.tables.Tables.subdirectories_among.Given as goal

abbrev pub invariant-loop-entry : goal.invariant-loop-entry
invariant-loop-entry l = l.count ≡ count_by (λ e. is_in l.self l.directory e.0 && is_directory l.self e.1) (take l.entry-index l.entries)

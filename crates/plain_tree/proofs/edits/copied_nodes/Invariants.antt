use Rattle.std.proofs.Common.{◌≡◌, take}
use Rattle.plain_tree.proofs.edits.copied_nodes.Given as goal

abbrev pub invariant-loop-entry : goal.invariant-loop-entry
invariant-loop-entry l = l.copy.items ≡ take l.entry-index l.entries

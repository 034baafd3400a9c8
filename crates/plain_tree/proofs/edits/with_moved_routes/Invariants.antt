use Rattle.std.proofs.Common.{◌≡◌, ◌++◌}
use Rattle.plain_tree.specs.Entries.{moved_entries}
use Rattle.plain_tree.proofs.edits.with_moved_routes.Given as goal

-- what is moved and what is left are the whole
abbrev pub invariant-loop-entry : goal.invariant-loop-entry
invariant-loop-entry l = l.moved.items ++ moved_entries l.from l.to l.entry-iterator.rest.items ≡ moved_entries l.from l.to l.fn.entries.items

use Rattle.std.proofs.Common.{◌≡◌, ◌+◌, length}
use Rattle.plain_tree.proofs.fronts.has_count.Given as goal

-- the names that were counted and those that are left are all
abbrev pub invariant-loop : goal.invariant-loop
invariant-loop l = l.counter + length l.names ≡ length l.initial.names

use Rattle.std.proofs.Common.{◌≡◌, ◌+◌, ◌<◌, ◌≤◌, ℕ, true, is_some, nat_cmp}
use Rattle.std.specs.FinMap.Entries.{find}
use Rattle.plain_tree.proofs.tables.Tables.least_free_id.Given as goal

-- each number from the first free one to this one is an id
abbrev pub invariant-loop : goal.invariant-loop
invariant-loop l = (l.id ≡ 2 + l.counter) × ((j : ℕ) → 2 ≤ j → j < l.id → is_some (find nat_cmp j l.self-inside.nodes.items) ≡ true)

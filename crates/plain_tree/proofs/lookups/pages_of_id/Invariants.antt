use Rattle.std.proofs.Common.{◌≡◌, length, nat_cmp}
use Rattle.std.specs.FinMap.Entries.{find}
use Rattle.plain_tree.proofs.lookups.pages_of_id.Given as goal

-- what is found in the whole is what is found in what is left
abbrev pub invariant-loop-left : goal.invariant-loop-left
invariant-loop-left l = find nat_cmp l.directory l.entries ≡ find nat_cmp l.directory l.left

abbrev pub decreases-loop-left : goal.decreases-loop-left
decreases-loop-left l = length l.left

use Rattle.std.proofs.Common.{◌≡◌, ◌==◌, length}
use Rattle.std.specs.List.{list_any}
use Rattle.plain_tree.proofs.lookups.has_path.Given as goal

-- the answer for the whole is that for what is left
abbrev pub invariant-loop-left : goal.invariant-loop-left
invariant-loop-left l = list_any (λ e. e.1 == l.id) l.entries ≡ list_any (λ e. e.1 == l.id) l.left

abbrev pub decreases-loop-left : goal.decreases-loop-left
decreases-loop-left l = length l.left

use Rattle.std.proofs.Common.{◌≡◌, ◌||◌, not, Some, is_some, length, nat_cmp}
use Rattle.std.specs.List.{list_all}
use Rattle.std.specs.FinMap.Entries.{find}
use Rattle.tree_model.specs.Tree.{is_directory_node}
use Rattle.plain_tree.proofs.tables.fits.have_each.Given as goal

-- the answer for the whole is that for what is left
abbrev pub invariant-loop-left : goal.invariant-loop-left
invariant-loop-left l = list_all (λ e. not (is_directory_node (Some e.1)) || is_some (find nat_cmp e.0 l.fn.entries)) l.nodes
    ≡ list_all (λ e. not (is_directory_node (Some e.1)) || is_some (find nat_cmp e.0 l.fn.entries)) l.left

abbrev pub decreases-loop-left : goal.decreases-loop-left
decreases-loop-left l = length l.left

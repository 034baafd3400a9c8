use Rattle.std.proofs.Common.{◌≡◌, ◌&&◌, length}
use Rattle.std.specs.List.{list_all}
use Rattle.tree_model.specs.Tree.{is_directory, may_have, name_count}
use Rattle.plain_tree.proofs.tables.fits.are_within.Given as goal

-- the answer for the whole is that for what is left
abbrev pub invariant-loop-left : goal.invariant-loop-left
invariant-loop-left l = list_all (λ e. is_directory l.tree e.0 && may_have (name_count l.tree e.0) e.1) l.entries ≡ list_all (λ e. is_directory l.tree e.0 && may_have (name_count l.tree e.0) e.1) l.left

abbrev pub decreases-loop-left : goal.decreases-loop-left
decreases-loop-left l = length l.left

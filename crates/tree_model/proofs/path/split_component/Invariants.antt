use Rattle.tree_model.proofs.PathLaws.{IsScanned}
use Rattle.tree_model.proofs.path.split_component.Given as goal

abbrev pub invariant-loop-i : goal.invariant-loop-i
invariant-loop-i l = IsScanned l.text l.i l.plain

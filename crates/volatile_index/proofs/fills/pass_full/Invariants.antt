use Rattle.volatile_index.specs.Fills.{AreFull}
use Rattle.volatile_index.proofs.fills.pass_full.Given as goal

abbrev pub invariant-loop-place : goal.invariant-loop-place
invariant-loop-place l = AreFull l.fills l.place

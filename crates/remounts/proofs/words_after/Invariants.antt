use Rattle.std.proofs.Common.{take}
use Rattle.remounts.specs.InTurn.{LeaveInTurn}
use Rattle.remounts.proofs.words_after.Given as goal

abbrev pub invariant-loop-crash : goal.invariant-loop-crash
invariant-loop-crash l = LeaveInTurn (take l.crash-index l.crashes) l.words l.left.items

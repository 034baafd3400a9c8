use Rattle.pm_memory.proofs.Alike.{So_far}
use Rattle.pm_memory.proofs.within.entries_within.Given as goal

abbrev pub invariant-loop-i : goal.invariant-loop-i
invariant-loop-i l = So_far l.entries l.moment l.i l.left

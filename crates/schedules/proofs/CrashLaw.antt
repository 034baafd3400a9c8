-- From a first border on a crash at any moment leaves the history at some turn.
use Rattle.schedules.specs.Laws.{CrashLaw}
use Rattle.schedules.proofs.CrashTurns.{turns_leave}

pub crash_law : CrashLaw
crash_law schedule start turns first are = turns_leave schedule 0 start turns are first.going (first.border.going first.going).weaving

use Rattle.remounts.proofs.Turns.{late_crash}
use Rattle.remounts.proofs.late_crash_law.Goals as goal

pub returns : goal.returns
returns c = late_crash

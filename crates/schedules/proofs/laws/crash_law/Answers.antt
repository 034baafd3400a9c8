use Rattle.schedules.proofs.CrashLaw.{crash_law}
use Rattle.schedules.proofs.laws.crash_law.Goals as goal

pub returns : goal.returns
returns c = crash_law

use Rattle.running_laws.proofs.CrashFirst.{first_crash_law}
use Rattle.running_laws.proofs.CrashLater.{later_crash_law}
use Rattle.running_laws.proofs.crash_law.Goals as goal

pub returns-clause-first : goal.returns-clause-first
returns-clause-first c = first_crash_law

pub returns-clause-later : goal.returns-clause-later
returns-clause-later c = later_crash_law

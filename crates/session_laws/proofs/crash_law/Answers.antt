use Rattle.running_laws.proofs.CrashFirst.{first_crash_law}
use Rattle.running_laws.proofs.CrashLater.{later_crash_law}
use Rattle.session_laws.proofs.CrashBegins.{begin_crash_law}
use Rattle.session_laws.proofs.CrashGoes.{go_on_crash_law}
use Rattle.session_laws.proofs.CrashLeaves.{quiet_crash_law}
use Rattle.session_laws.proofs.crash_law.Goals as goal

pub returns-clause-quiet : goal.returns-clause-quiet
returns-clause-quiet c = quiet_crash_law

pub returns-clause-begins : goal.returns-clause-begins
returns-clause-begins c = begin_crash_law first_crash_law

pub returns-clause-goes_on : goal.returns-clause-goes_on
returns-clause-goes_on c = go_on_crash_law later_crash_law

use Rattle.session_laws.proofs.moving_law.Goals as goal
use Rattle.session_laws.proofs.MoveCrashes.{move_enters_law, move_crash_law, move_acknowledged_law}
use Rattle.session_laws.proofs.MoveSteps.{move_goes_on_law}
use Rattle.session_laws.proofs.MoveBegins.{move_begins_law, move_stands_law}

pub returns-clause-begins : goal.returns-clause-begins
returns-clause-begins c = move_begins_law

pub returns-clause-stands : goal.returns-clause-stands
returns-clause-stands c = move_stands_law

pub returns-clause-goes_on : goal.returns-clause-goes_on
returns-clause-goes_on c = move_goes_on_law

pub returns-clause-enters : goal.returns-clause-enters
returns-clause-enters c = move_enters_law

pub returns-clause-crash : goal.returns-clause-crash
returns-clause-crash c = move_crash_law

pub returns-clause-acknowledged : goal.returns-clause-acknowledged
returns-clause-acknowledged c = move_acknowledged_law

use Rattle.waiting_laws.proofs.removing_law.Goals as goal
use Rattle.waiting_laws.proofs.RemovingBegins.{removing_begins_law}
use Rattle.waiting_laws.proofs.RemovingCommits.{removing_commits_law}
use Rattle.waiting_laws.proofs.RemovingHolds.{removing_holds_law}
use Rattle.waiting_laws.proofs.RemovingStill.{removing_still_law}
use Rattle.waiting_laws.proofs.RemovingStands.{removing_stands_law}
use Rattle.waiting_laws.proofs.RemovingSteps.{removing_steps_law}
use Rattle.waiting_laws.proofs.RemovingEnds.{removing_ends_law}

pub returns-clause-begins : goal.returns-clause-begins
returns-clause-begins c = removing_begins_law

pub returns-clause-commits : goal.returns-clause-commits
returns-clause-commits c = removing_commits_law

pub returns-clause-holds : goal.returns-clause-holds
returns-clause-holds c = removing_holds_law

pub returns-clause-still : goal.returns-clause-still
returns-clause-still c = removing_still_law

pub returns-clause-stands : goal.returns-clause-stands
returns-clause-stands c = removing_stands_law

pub returns-clause-steps : goal.returns-clause-steps
returns-clause-steps c = removing_steps_law

pub returns-clause-ends : goal.returns-clause-ends
returns-clause-ends c = removing_ends_law

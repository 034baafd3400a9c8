use Rattle.waiting_laws.proofs.unnamed_crash_law.Goals as goal
use Rattle.waiting_laws.proofs.MovingCommits.{moving_commit_law}
use Rattle.waiting_laws.proofs.RemovingCommits.{removing_first_crash_law}
use Rattle.waiting_laws.proofs.UnnamedCrash.{removing_quiet_law, moving_quiet_law}

pub returns-clause-removed : goal.returns-clause-removed
returns-clause-removed c = removing_first_crash_law

pub returns-clause-removed_quiet : goal.returns-clause-removed_quiet
returns-clause-removed_quiet c = removing_quiet_law

pub returns-clause-moved_quiet : goal.returns-clause-moved_quiet
returns-clause-moved_quiet c = moving_quiet_law

pub returns-clause-moved : goal.returns-clause-moved
returns-clause-moved c = moving_commit_law

use Rattle.waiting_laws.proofs.moving_law.Goals as goal
use Rattle.waiting_laws.proofs.MovingBegins as begin_lemmas
use Rattle.waiting_laws.proofs.MovingCommits as commit_lemmas
use Rattle.waiting_laws.proofs.MovingEnds as end_lemmas
use Rattle.waiting_laws.proofs.MovingSteps as step_lemmas

pub returns-clause-begins : goal.returns-clause-begins
returns-clause-begins c = begin_lemmas.moving_begins

pub returns-clause-starts : goal.returns-clause-starts
returns-clause-starts c = begin_lemmas.moving_starts

pub returns-clause-steps : goal.returns-clause-steps
returns-clause-steps c = step_lemmas.moving_steps

pub returns-clause-ends : goal.returns-clause-ends
returns-clause-ends c = end_lemmas.moving_ends

pub returns-clause-commits : goal.returns-clause-commits
returns-clause-commits c = commit_lemmas.moving_commits

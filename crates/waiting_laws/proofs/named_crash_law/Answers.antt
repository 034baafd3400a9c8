use Rattle.waiting_laws.proofs.NamedCrashLinking.{linking_first_crash, linking_quiet, linking_commits}
use Rattle.waiting_laws.proofs.NamedCrashMaking.{making_first_crash, making_quiet, making_commits}
use Rattle.waiting_laws.proofs.named_crash_law.Goals as goal

pub returns-clause-made_first : goal.returns-clause-made_first
returns-clause-made_first c = making_first_crash

pub returns-clause-made_quiet : goal.returns-clause-made_quiet
returns-clause-made_quiet c = making_quiet

pub returns-clause-made : goal.returns-clause-made
returns-clause-made c = making_commits

pub returns-clause-linked_first : goal.returns-clause-linked_first
returns-clause-linked_first c = linking_first_crash

pub returns-clause-linked_quiet : goal.returns-clause-linked_quiet
returns-clause-linked_quiet c = linking_quiet

pub returns-clause-linked : goal.returns-clause-linked
returns-clause-linked c = linking_commits

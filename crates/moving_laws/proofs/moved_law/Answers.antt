use Rattle.moving_laws.proofs.Committed.{moved_law, left_law}
use Rattle.moving_laws.proofs.moved_law.Goals as goal

pub returns-clause-moved : goal.returns-clause-moved
returns-clause-moved c = moved_law

pub returns-clause-left : goal.returns-clause-left
returns-clause-left c = left_law

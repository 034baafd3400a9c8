use Rattle.moving_laws.proofs.Cleared.{move_cleared_law, move_given_law}
use Rattle.moving_laws.proofs.cleared_law.Goals as goal

pub returns-clause-cleared : goal.returns-clause-cleared
returns-clause-cleared c = move_cleared_law

pub returns-clause-given : goal.returns-clause-given
returns-clause-given c = move_given_law

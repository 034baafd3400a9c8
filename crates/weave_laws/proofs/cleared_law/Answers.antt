use Rattle.weave_laws.proofs.Cleared.{cleared_law}
use Rattle.weave_laws.proofs.Freed.{freed_law}
use Rattle.weave_laws.proofs.GivenPages.{given_law}
use Rattle.weave_laws.proofs.cleared_law.Goals as goal

pub returns-clause-slot : goal.returns-clause-slot
returns-clause-slot c = cleared_law

pub returns-clause-owners : goal.returns-clause-owners
returns-clause-owners c = given_law

pub returns-clause-rest : goal.returns-clause-rest
returns-clause-rest c = freed_law

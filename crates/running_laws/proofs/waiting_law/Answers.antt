use Rattle.running_laws.proofs.WaitStands.{stands_beside_law, holds_law, stands_law}
use Rattle.running_laws.proofs.waiting_law.Goals as goal

pub returns-clause-beside : goal.returns-clause-beside
returns-clause-beside c = stands_beside_law

pub returns-clause-holds : goal.returns-clause-holds
returns-clause-holds c = holds_law

pub returns-clause-stands : goal.returns-clause-stands
returns-clause-stands c = stands_law

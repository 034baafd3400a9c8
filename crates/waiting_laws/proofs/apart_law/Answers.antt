use Rattle.waiting_laws.proofs.ApartHeld.{holds_apart_law, passes_by_law}
use Rattle.waiting_laws.proofs.apart_law.Goals as goal

pub returns-clause-holds : goal.returns-clause-holds
returns-clause-holds c = holds_apart_law

pub returns-clause-passes : goal.returns-clause-passes
returns-clause-passes c = passes_by_law

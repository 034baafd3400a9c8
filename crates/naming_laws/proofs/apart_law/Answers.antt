use Rattle.naming_laws.proofs.Apart as found
use Rattle.naming_laws.proofs.Unused as unused
use Rattle.naming_laws.proofs.apart_law.Goals as goal

pub returns-clause-same : goal.returns-clause-same
returns-clause-same c = found.apart_law

pub returns-clause-unused : goal.returns-clause-unused
returns-clause-unused c = unused.unused_law

use Rattle.rename_laws.proofs.ready_law.Goals as goal
use Rattle.rename_laws.proofs.Ready as lemmas

pub returns-clause-opening : goal.returns-clause-opening
returns-clause-opening c = lemmas.opening_law

pub returns-clause-ready : goal.returns-clause-ready
returns-clause-ready c = lemmas.ready_law

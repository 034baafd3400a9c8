use Rattle.repair_laws.proofs.stored_law.Goals as goal
use Rattle.repair_laws.proofs.Storing as lemmas

pub returns-clause-steps : goal.returns-clause-steps
returns-clause-steps c = lemmas.stored_law

pub returns-clause-still : goal.returns-clause-still
returns-clause-still c = lemmas.still_law

pub returns-clause-nothing : goal.returns-clause-nothing
returns-clause-nothing c = lemmas.nothing_law

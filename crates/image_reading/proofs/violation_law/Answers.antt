use Rattle.image_reading.proofs.violation_law.Goals as goal
use Rattle.image_reading.proofs.Violations as lemmas

pub returns-clause-one : goal.returns-clause-one
returns-clause-one c = lemmas.one_violation

pub returns-clause-none : goal.returns-clause-none
returns-clause-none c = lemmas.no_violation

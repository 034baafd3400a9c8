use Rattle.content_laws.proofs.step_law.Goals as goal
use Rattle.content_laws.proofs.Steps as lemmas

pub returns-clause-inside : goal.returns-clause-inside
returns-clause-inside c = lemmas.inside_step_law

pub returns-clause-write : goal.returns-clause-write
returns-clause-write c = lemmas.write_past_step_law

pub returns-clause-truncate : goal.returns-clause-truncate
returns-clause-truncate c = lemmas.lengthen_step_law

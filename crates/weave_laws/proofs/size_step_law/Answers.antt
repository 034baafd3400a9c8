use Rattle.weave_laws.proofs.SizedSteps.{inside_write_law, raised_write_law, raised_truncate_law, lowered_truncate_law}
use Rattle.weave_laws.proofs.size_step_law.Goals as goal

pub returns-clause-inside : goal.returns-clause-inside
returns-clause-inside c = inside_write_law

pub returns-clause-write : goal.returns-clause-write
returns-clause-write c = raised_write_law

pub returns-clause-longer : goal.returns-clause-longer
returns-clause-longer c = raised_truncate_law

pub returns-clause-shorter : goal.returns-clause-shorter
returns-clause-shorter c = lowered_truncate_law

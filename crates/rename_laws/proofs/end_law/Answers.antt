use Rattle.rename_laws.proofs.end_law.Goals as goal
use Rattle.rename_laws.proofs.MoveReads as lemmas

pub returns-clause-tidy : goal.returns-clause-tidy
returns-clause-tidy c = lemmas.tidy_law

pub returns-clause-reads : goal.returns-clause-reads
returns-clause-reads c = lemmas.reads_law

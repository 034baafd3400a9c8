use Rattle.rename_laws.proofs.interval_law.Goals as goal
use Rattle.rename_laws.proofs.MoveIntervals as lemmas
use Rattle.rename_laws.proofs.MoveReads as reads

pub returns-clause-commit : goal.returns-clause-commit
returns-clause-commit c = lemmas.commit_law

pub returns-clause-leaving : goal.returns-clause-leaving
returns-clause-leaving c = lemmas.leaving_law

pub returns-clause-clearing : goal.returns-clause-clearing
returns-clause-clearing c = lemmas.clearing_law

pub returns-clause-giving : goal.returns-clause-giving
returns-clause-giving c = lemmas.giving_law

pub returns-clause-freeing : goal.returns-clause-freeing
returns-clause-freeing c = lemmas.freeing_law

pub returns-clause-reads : goal.returns-clause-reads
returns-clause-reads c = reads.committed_law

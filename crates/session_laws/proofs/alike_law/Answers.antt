use Rattle.session_laws.proofs.HistoryAlike.{answers_alike_law, reads_alike_law}
use Rattle.session_laws.proofs.alike_law.Goals as goal

pub returns-clause-answers : goal.returns-clause-answers
returns-clause-answers c = answers_alike_law

pub returns-clause-reads : goal.returns-clause-reads
returns-clause-reads c = reads_alike_law

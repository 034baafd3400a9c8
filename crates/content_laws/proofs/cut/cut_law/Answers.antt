use Rattle.content_laws.proofs.cut.cut_law.Goals as goal
use Rattle.content_laws.proofs.CutTidy as lemmas
use Rattle.content_laws.proofs.Trims as trims

pub returns-clause-lowering : goal.returns-clause-lowering
returns-clause-lowering c = lemmas.lowering_law

pub returns-clause-trimming : goal.returns-clause-trimming
returns-clause-trimming c = trims.trimming_law

pub returns-clause-releasing : goal.returns-clause-releasing
returns-clause-releasing c = trims.releasing_law

pub returns-clause-end : goal.returns-clause-end
returns-clause-end c = lemmas.cut_law

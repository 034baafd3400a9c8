use Rattle.weave_laws.proofs.Resized.{raised_meaning_law, lowered_meaning_law}
use Rattle.weave_laws.proofs.size_law.Goals as goal

pub returns-clause-raised : goal.returns-clause-raised
returns-clause-raised c = raised_meaning_law

pub returns-clause-lowered : goal.returns-clause-lowered
returns-clause-lowered c = lowered_meaning_law

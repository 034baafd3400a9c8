use Rattle.weave_laws.proofs.SizedFilled.{filled_law}
use Rattle.weave_laws.proofs.SizedInside.{written_inside_law}
use Rattle.weave_laws.proofs.SizedLowered.{lowered_law}
use Rattle.weave_laws.proofs.SizedRaised.{raised_law}
use Rattle.weave_laws.proofs.SizedTaken.{taken_law}
use Rattle.weave_laws.proofs.sized_law.Goals as goal

pub returns-clause-inside : goal.returns-clause-inside
returns-clause-inside c = written_inside_law

pub returns-clause-filled : goal.returns-clause-filled
returns-clause-filled c = filled_law

pub returns-clause-taken : goal.returns-clause-taken
returns-clause-taken c = taken_law

pub returns-clause-raised : goal.returns-clause-raised
returns-clause-raised c = raised_law

pub returns-clause-lowered : goal.returns-clause-lowered
returns-clause-lowered c = lowered_law

use Rattle.knowing_laws.proofs.Cut.{cut_known_law}
use Rattle.knowing_laws.proofs.Givings.{given_known_law}
use Rattle.knowing_laws.proofs.given_law.Goals as goal

pub returns-clause-node : goal.returns-clause-node
returns-clause-node c = given_known_law

pub returns-clause-cut : goal.returns-clause-cut
returns-clause-cut c = cut_known_law

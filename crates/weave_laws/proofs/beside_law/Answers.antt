use Rattle.weave_laws.proofs.beside_law.Goals as goal
use Rattle.weave_laws.proofs.Disjoint.{wider_law, disjoint_law}

pub returns-clause-wider : goal.returns-clause-wider
returns-clause-wider c = wider_law

pub returns-clause-disjoint : goal.returns-clause-disjoint
returns-clause-disjoint c = disjoint_law

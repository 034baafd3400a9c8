use Rattle.mixing_laws.proofs.Does as does
use Rattle.mixing_laws.proofs.Finds as finds
use Rattle.mixing_laws.proofs.Own as own
use Rattle.mixing_laws.proofs.alike_law.Goals as goal

pub returns-clause-finds : goal.returns-clause-finds
returns-clause-finds c = finds.finds_alike_law

pub returns-clause-does : goal.returns-clause-does
returns-clause-does c = does.does_alike_law

pub returns-clause-own : goal.returns-clause-own
returns-clause-own c = own.own_range_law

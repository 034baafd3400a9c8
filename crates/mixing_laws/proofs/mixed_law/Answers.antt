use Rattle.mixing_laws.proofs.Mixes as mixes
use Rattle.mixing_laws.proofs.Ranges as ranges
use Rattle.mixing_laws.proofs.mixed_law.Goals as goal

pub returns-clause-none : goal.returns-clause-none
returns-clause-none c = ranges.none_mixed_law

pub returns-clause-order : goal.returns-clause-order
returns-clause-order c = ranges.mixed_in_order_law

pub returns-clause-more : goal.returns-clause-more
returns-clause-more c = ranges.more_mixed_law

pub returns-clause-unmixed : goal.returns-clause-unmixed
returns-clause-unmixed c = ranges.unmixed_law

pub returns-clause-below : goal.returns-clause-below
returns-clause-below c = mixes.stored_below_law

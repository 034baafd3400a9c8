use Rattle.waiting_laws.proofs.growing_law.Goals as goal
use Rattle.waiting_laws.proofs.GrowingFilled.{growth_filled_law}
use Rattle.waiting_laws.proofs.GrowingStill.{growth_still_law}
use Rattle.waiting_laws.proofs.GrowingHeld.{growth_holds_law, growth_stands_law}
use Rattle.waiting_laws.proofs.GrowingEnds.{growth_ends_law}
use Rattle.waiting_laws.proofs.GrowingOwned.{growth_owned_law}

pub returns-clause-filled : goal.returns-clause-filled
returns-clause-filled c = growth_filled_law

pub returns-clause-owned : goal.returns-clause-owned
returns-clause-owned c = growth_owned_law

pub returns-clause-holds : goal.returns-clause-holds
returns-clause-holds c = growth_holds_law

pub returns-clause-stands : goal.returns-clause-stands
returns-clause-stands c = growth_stands_law

pub returns-clause-ends : goal.returns-clause-ends
returns-clause-ends c = growth_ends_law

pub returns-clause-still : goal.returns-clause-still
returns-clause-still c = growth_still_law

use Rattle.waiting_laws.proofs.LinkingBegins.{linking_begins}
use Rattle.waiting_laws.proofs.LinkingClaimed.{linking_claimed}
use Rattle.waiting_laws.proofs.LinkingEnds.{linking_ends}
use Rattle.waiting_laws.proofs.LinkingHolds.{linking_holds, linking_stands}
use Rattle.waiting_laws.proofs.LinkingStill.{linking_still}
use Rattle.waiting_laws.proofs.LinkingWritten.{linking_written}
use Rattle.waiting_laws.proofs.linking_law.Goals as goal

pub returns-clause-begins : goal.returns-clause-begins
returns-clause-begins c = linking_begins

pub returns-clause-written : goal.returns-clause-written
returns-clause-written c = linking_written

pub returns-clause-holds : goal.returns-clause-holds
returns-clause-holds c = linking_holds

pub returns-clause-still : goal.returns-clause-still
returns-clause-still c = linking_still

pub returns-clause-stands : goal.returns-clause-stands
returns-clause-stands c = linking_stands

pub returns-clause-claimed : goal.returns-clause-claimed
returns-clause-claimed c = linking_claimed

pub returns-clause-ends : goal.returns-clause-ends
returns-clause-ends c = linking_ends

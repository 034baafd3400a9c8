use Rattle.waiting_laws.proofs.MakingBegins.{making_begins}
use Rattle.waiting_laws.proofs.MakingWritten.{making_written}
use Rattle.waiting_laws.proofs.MakingEnds.{making_ends}
use Rattle.waiting_laws.proofs.MakingClaimed.{making_claimed}
use Rattle.waiting_laws.proofs.MakingHolds.{making_holds, making_stands}
use Rattle.waiting_laws.proofs.MakingStill.{making_still}
use Rattle.waiting_laws.proofs.making_law.Goals as goal

pub returns-clause-begins : goal.returns-clause-begins
returns-clause-begins c = making_begins

pub returns-clause-written : goal.returns-clause-written
returns-clause-written c = making_written

pub returns-clause-holds : goal.returns-clause-holds
returns-clause-holds c = making_holds

pub returns-clause-still : goal.returns-clause-still
returns-clause-still c = making_still

pub returns-clause-stands : goal.returns-clause-stands
returns-clause-stands c = making_stands

pub returns-clause-claimed : goal.returns-clause-claimed
returns-clause-claimed c = making_claimed

pub returns-clause-ends : goal.returns-clause-ends
returns-clause-ends c = making_ends

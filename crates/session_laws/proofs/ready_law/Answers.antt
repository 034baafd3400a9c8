use Rattle.running_laws.proofs.StillWaits.{still_waits_law}
use Rattle.running_laws.proofs.WaitStands.{holds_law}
use Rattle.session_laws.proofs.ReadyAsked.{asks_law, ready_law as ready_holds, few_kept_law}
use Rattle.session_laws.proofs.ReadyPassed.{prepared_law, acknowledged_among_law}
use Rattle.session_laws.proofs.ready_law.Goals as goal

pub returns-clause-asks : goal.returns-clause-asks
returns-clause-asks c = asks_law holds_law

pub returns-clause-prepared : goal.returns-clause-prepared
returns-clause-prepared c = prepared_law still_waits_law holds_law

pub returns-clause-ready : goal.returns-clause-ready
returns-clause-ready c = ready_holds holds_law

pub returns-clause-few : goal.returns-clause-few
returns-clause-few c = few_kept_law

pub returns-clause-acknowledged : goal.returns-clause-acknowledged
returns-clause-acknowledged c = acknowledged_among_law still_waits_law holds_law

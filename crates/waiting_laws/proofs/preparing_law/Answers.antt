use Rattle.waiting_laws.proofs.Preparing.{walks_refuse, few_events, prepared_passes, stands_in_order, acknowledged}
use Rattle.waiting_laws.proofs.preparing_law.Goals as goal

pub returns-clause-walks : goal.returns-clause-walks
returns-clause-walks c = walks_refuse

pub returns-clause-events : goal.returns-clause-events
returns-clause-events c = few_events

pub returns-clause-passes : goal.returns-clause-passes
returns-clause-passes c = prepared_passes

pub returns-clause-order : goal.returns-clause-order
returns-clause-order c = stands_in_order

pub returns-clause-acknowledged : goal.returns-clause-acknowledged
returns-clause-acknowledged c = acknowledged

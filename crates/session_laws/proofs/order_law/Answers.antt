use Rattle.running_laws.proofs.StillWaits.{still_waits_law}
use Rattle.running_laws.proofs.WaitStands.{holds_law}
use Rattle.session_laws.proofs.OrderTaken.{take_out_law, put_in_law}
use Rattle.session_laws.proofs.order_law.Goals as goal

pub returns-clause-out : goal.returns-clause-out
returns-clause-out c = take_out_law still_waits_law holds_law

pub returns-clause-in_again : goal.returns-clause-in_again
returns-clause-in_again c = put_in_law still_waits_law holds_law

-- A call among others goes on.
use Rattle.running_laws.proofs.CostStep.{step_costs_law}
use Rattle.running_laws.proofs.LaterSteps.{later_step_law}
use Rattle.running_laws.proofs.StillWaits.{still_waits_law}
use Rattle.running_laws.proofs.WaitHeld.{next_holds_law}
use Rattle.running_laws.proofs.WaitStands.{holds_law, stands_beside_law, stands_law}
use Rattle.session_laws.specs.Going.{GoOnAmongLaw}
use Rattle.session_laws.proofs.Going.{go_on_among_law}
use Rattle.session_laws.proofs.OrderTaken.{take_out_law, put_in_law}
use Rattle.session_laws.proofs.OthersWaits.{others_wait_law}

pub goes_among_law : GoOnAmongLaw
goes_among_law =
    go_on_among_law (take_out_law still_waits_law holds_law) (put_in_law still_waits_law holds_law) (others_wait_law still_waits_law holds_law) still_waits_law later_step_law holds_law
    stands_beside_law stands_law next_holds_law step_costs_law

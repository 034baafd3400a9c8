use Rattle.running_laws.proofs.BeginReady.{begins_law}
use Rattle.running_laws.proofs.BeginSteps.{first_step_law}
use Rattle.running_laws.proofs.CostPlan.{plan_costs_law}
use Rattle.running_laws.proofs.CostStep.{step_costs_law}
use Rattle.running_laws.proofs.StillWaits.{still_waits_law}
use Rattle.running_laws.proofs.WaitHeld.{begun_holds_law, next_holds_law}
use Rattle.running_laws.proofs.WaitNames.{names_held_law}
use Rattle.running_laws.proofs.WaitStands.{holds_law}
use Rattle.session_laws.proofs.BeginAmong.{begin_among_law}
use Rattle.session_laws.proofs.OrderTaken.{put_in_law}
use Rattle.session_laws.proofs.OthersWaits.{others_wait_law}
use Rattle.session_laws.proofs.begin_law.Goals as goal

pub returns : goal.returns
returns c =
    begin_among_law (put_in_law still_waits_law holds_law) (others_wait_law still_waits_law holds_law) begins_law first_step_law holds_law names_held_law begun_holds_law next_holds_law
    plan_costs_law step_costs_law

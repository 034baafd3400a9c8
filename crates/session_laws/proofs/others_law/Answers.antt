use Rattle.running_laws.proofs.StillWaits.{still_waits_law}
use Rattle.running_laws.proofs.WaitStands.{holds_law}
use Rattle.session_laws.proofs.OthersWaits.{others_wait_law}
use Rattle.session_laws.proofs.others_law.Goals as goal

pub returns : goal.returns
returns c = others_wait_law still_waits_law holds_law

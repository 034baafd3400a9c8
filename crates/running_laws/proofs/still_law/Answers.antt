use Rattle.running_laws.proofs.StillWaits.{still_waits_law}
use Rattle.running_laws.proofs.still_law.Goals as goal

pub returns : goal.returns
returns c = still_waits_law

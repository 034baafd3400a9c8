use Rattle.image_laws.proofs.owner_law.Goals as goal
use Rattle.image_laws.proofs.Exempt.{exempt_law}

pub returns : goal.returns
returns c = exempt_law

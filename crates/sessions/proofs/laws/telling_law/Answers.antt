use Rattle.sessions.proofs.Telling.{tells_law}
use Rattle.sessions.proofs.laws.telling_law.Goals as goal

pub returns : goal.returns
returns c = tells_law

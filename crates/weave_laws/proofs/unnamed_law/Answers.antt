use Rattle.weave_laws.proofs.Unnamed.{unnamed_law}
use Rattle.weave_laws.proofs.unnamed_law.Goals as goal

pub returns : goal.returns
returns c = unnamed_law

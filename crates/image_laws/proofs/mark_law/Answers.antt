use Rattle.image_laws.proofs.mark_law.Goals as goal
use Rattle.image_laws.proofs.Marking as marking

pub returns : goal.returns
returns c = marking.mark_law

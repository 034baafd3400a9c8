use Rattle.weave_laws.proofs.Ordered as lemmas
use Rattle.weave_laws.proofs.joined_law.Goals as goal

pub returns : goal.returns
returns c = lemmas.any_order_law

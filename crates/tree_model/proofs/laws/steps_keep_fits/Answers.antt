use Rattle.tree_model.proofs.FitsLaws.{Fits-fresh, Fits-step}
use Rattle.tree_model.proofs.laws.steps_keep_fits.Goals as goal

pub returns : goal.returns
returns c = record { start = Fits-fresh; steps = Fits-step }

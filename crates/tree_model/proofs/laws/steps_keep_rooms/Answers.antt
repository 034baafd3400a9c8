use Rattle.tree_model.proofs.FitsLaws.{IsRoom-fresh, IsRoom-step}
use Rattle.tree_model.proofs.laws.steps_keep_rooms.Goals as goal

pub returns : goal.returns
returns c = record { start = IsRoom-fresh; steps = IsRoom-step }

use Rattle.tree_model.proofs.PlainRuns.{IsVolumeState-fresh, IsVolumeState-line}
use Rattle.tree_model.proofs.laws.lines_keep_states.Goals as goal

pub returns : goal.returns
returns c = record { start = IsVolumeState-fresh; lines = IsVolumeState-line }

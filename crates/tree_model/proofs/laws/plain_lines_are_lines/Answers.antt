use Rattle.tree_model.proofs.PlainRuns.{plain_line}
use Rattle.tree_model.proofs.laws.plain_lines_are_lines.Goals as goal

pub returns : goal.returns
returns c = record { lines = plain_line }

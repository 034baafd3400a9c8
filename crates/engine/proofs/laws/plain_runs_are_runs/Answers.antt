use Rattle.engine.proofs.PlainRuns.{plain_runs, plain_last}
use Rattle.engine.proofs.laws.plain_runs_are_runs.Goals as goal

pub returns : goal.returns
returns c = record { runs = plain_runs; last = plain_last }

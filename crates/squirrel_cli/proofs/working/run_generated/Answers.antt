use Rattle.squirrel_cli.proofs.Works.{counts_generated, faulted_generated, never_at_limit}
use Rattle.squirrel_cli.proofs.working.run_generated.Goals as goal

pub returns-in-Done-clause-runs : goal.returns-in-Done-clause-runs
returns-in-Done-clause-runs g c = counts_generated c.in-Done.is c.new-work.ensures c.args.generated.few c.new-tally.ensures c.run.ensures.runs

pub returns-in-Faulted-clause-runs : goal.returns-in-Faulted-clause-runs
returns-in-Faulted-clause-runs g c = faulted_generated _ _ c.in-Faulted.is c.new-work.ensures c.run.ensures.runs

pub unreachable-requires-in-Limit : goal.unreachable-requires-in-Limit
unreachable-requires-in-Limit g c = never_at_limit _ _ c.in-Limit.is c.new-work.ensures c.args.generated.few c.run.ensures.runs

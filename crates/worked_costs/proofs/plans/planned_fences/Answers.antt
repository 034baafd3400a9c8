use Rattle.std.proofs.Common.{arith}
use Rattle.volume.proofs.PreparedAlone.{asked}
use Rattle.worked_costs.proofs.plans.planned_fences.Goals as goal

pub prepare-requires-clause-asked : goal.prepare-requires-clause-asked
prepare-requires-clause-asked c = asked c.in-Do.command (c.in_ok-volume.ensures.answers.start, c.in_ok-volume.ensures.answers.stands)

pub prepare-requires-clause-kept : goal.prepare-requires-clause-kept
prepare-requires-clause-kept c = let none = c.in_ok-volume.ensures.answers.stands.no_call in omega (arith, none)

use Rattle.worked_weaves.proofs.Started.{stands_started}
use Rattle.worked_weaves.proofs.weaves.weave_on.Goals as goal

pub run_schedule-requires-clause-stands : goal.run_schedule-requires-clause-stands
run_schedule-requires-clause-stands c = stands_started _ _ _ _ c.in_ok-interleave.ensures (c.in_ok-volume.ensures.answers.start, c.in_ok-volume.ensures.answers.stands)

use Rattle.image_reading.specs.Residue.{no_residue}
use Rattle.volume.proofs.Beside.{stands_beside}
use Rattle.worked_costs.proofs.stages.compare_border.Goals as goal

pub free-free-requires-clause-stands : goal.free-free-requires-clause-stands
free-free-requires-clause-stands c = (c.in_ok-volume.ensures.answers.start, no_residue, stands_beside c.in_ok-volume.ensures.answers.stands)

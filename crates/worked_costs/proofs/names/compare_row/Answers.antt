use Rattle.image_reading.specs.Residue.{no_residue}
use Rattle.volume.proofs.Beside.{stands_beside}
use Rattle.worked_costs.proofs.names.compare_row.Goals as goal

pub named-requires-clause-stands : goal.named-requires-clause-stands
named-requires-clause-stands c = (c.in_ok-volume.ensures.answers.start, no_residue, stands_beside c.in_ok-volume.ensures.answers.stands)

pub names_inode-second-requires-clause-stands : goal.names_inode-second-requires-clause-stands
names_inode-second-requires-clause-stands c = (c.in_ok-volume.ensures.answers.start, no_residue, stands_beside c.in_ok-volume.ensures.answers.stands)

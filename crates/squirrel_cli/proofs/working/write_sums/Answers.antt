use Rattle.image_reading.specs.Residue.{no_residue}
use Rattle.volume.proofs.Beside.{stands_beside, standing_beside}
use Rattle.squirrel_cli.proofs.Works.{summed, sums_written}
use Rattle.squirrel_cli.proofs.working.write_sums.Goals as goal

pub free-requires-clause-stands : goal.free-requires-clause-stands
free-requires-clause-stands g c = standing_beside c.args.volume.now (g.P.Pm.view c.args.pm.now) c.requires.stands

pub returns : goal.returns
returns g c = λ state stands. sums_written (summed _ _ state c.accepted.ensures c.refused.ensures (c.free.ensures state no_residue (stands_beside stands)) (c.totals-totals.ensures state stands)) c.write_work.ensures

use Rattle.volume.proofs.Summed.{AreTotalsTo}
use Rattle.volume.proofs.volume.Volume.totals.Given as goal

abbrev pub invariant-loop-number : goal.invariant-loop-number
invariant-loop-number g l = AreTotalsTo l.self (g.P.Pm.view l.pm) l.number l.totals

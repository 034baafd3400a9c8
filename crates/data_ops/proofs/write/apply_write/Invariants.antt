use Rattle.volume.specs.declared.next.Next.TheVariants.{More}
use Rattle.data_ops.proofs.Going.{HasGone}
use Rattle.data_ops.proofs.Writing.{call, rank}
use Rattle.data_ops.proofs.write.apply_write.Given as goal

abbrev pub invariant-loop-running : goal.invariant-loop-running
invariant-loop-running g l = record { gone : HasGone (call l.fn.volume l.fn.plan l.fn.bytes) l.fn.volume (g.P.Pm.view l.fn.pm) l.volume (g.P.Pm.view l.pm) (More l.running) }

abbrev pub decreases-loop-running : goal.decreases-loop-running
decreases-loop-running g l = rank (More l.running)

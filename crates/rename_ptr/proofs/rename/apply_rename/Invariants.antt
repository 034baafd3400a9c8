use Rattle.volume.specs.declared.next.Next.TheVariants.{More}
use Rattle.rename_ptr.proofs.Going.{HasGone, rank}
use Rattle.rename_ptr.proofs.rename.apply_rename.Given as goal

abbrev pub invariant-loop-reply : goal.invariant-loop-reply
invariant-loop-reply g l = record {
  gone : HasGone l.fn.volume (g.P.Pm.view l.fn.pm) l.fn.plan l.volume (g.P.Pm.view l.pm) (More l.running);
}

abbrev pub decreases-loop-reply : goal.decreases-loop-reply
decreases-loop-reply g l = rank (More l.running)

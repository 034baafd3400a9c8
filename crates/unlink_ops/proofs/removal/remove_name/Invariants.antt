use Rattle.std.proofs.Common.{◌≡◌}
use Rattle.volume.specs.declared.next.Next.TheVariants.{More}
use Rattle.volume.specs.declared.plan.Removal.{Removal}
use Rattle.volume.specs.declared.plan.Action.TheVariants.{Remove}
use Rattle.unlink_ops.proofs.RemovalGoing.{HasGone, rank}
use Rattle.unlink_ops.proofs.removal.remove_name.Given as goal

abbrev pub invariant-loop-reply : goal.invariant-loop-reply
invariant-loop-reply g l = record { gone : (removal : Removal) → l.fn.plan ≡ Remove removal → HasGone l.fn.volume (g.P.Pm.view l.fn.pm) removal l.volume (g.P.Pm.view l.pm) (More l.running) }

abbrev pub decreases-loop-reply : goal.decreases-loop-reply
decreases-loop-reply g l = rank (More l.running)

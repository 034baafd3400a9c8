use Rattle.std.proofs.Common.{◌≡◌, length}
use Rattle.volume.specs.declared.next.Next.TheVariants.{More}
use Rattle.volume.specs.declared.plan.NewName.{NewName}
use Rattle.volume.specs.declared.plan.Action.TheVariants.{Name as Naming}
use Rattle.unlink_ops.proofs.LinkGoing.{IsGoing, left_next}
use Rattle.unlink_ops.proofs.link.apply_link.Given as goal

abbrev pub invariant-loop-reply : goal.invariant-loop-reply
invariant-loop-reply g l = record {
  going : (link : NewName) × (l.fn.plan ≡ Naming link) × IsGoing link l.fn.volume (g.P.Pm.view l.fn.pm) l.volume (g.P.Pm.view l.pm) (More l.running);
}

abbrev pub decreases-loop-reply : goal.decreases-loop-reply
decreases-loop-reply g l = length (left_next l.fn.volume.size (More l.running))

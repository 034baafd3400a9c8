use Rattle.std.proofs.Common.{◌≡◌}
use Rattle.volume.specs.declared.next.Next.TheVariants.{More}
use Rattle.volume.specs.declared.plan.NewEntry.{NewEntry}
use Rattle.volume.specs.declared.plan.Action.TheVariants.{Make}
use Rattle.create_ops.proofs.Going.{HasGone, rank}
use Rattle.create_ops.proofs.make.make.Given as goal

abbrev pub invariant-loop-reply : goal.invariant-loop-reply
invariant-loop-reply g l = record { gone : (entry : NewEntry) → l.fn.plan ≡ Make entry → HasGone l.fn.volume (g.P.Pm.view l.fn.pm) entry l.volume (g.P.Pm.view l.pm) (More l.running) }

abbrev pub decreases-loop-reply : goal.decreases-loop-reply
decreases-loop-reply g l = rank (More l.running)

use Rattle.std.proofs.Common.{subst}
use Rattle.volume.specs.declared.next.Next.{Next}
use Rattle.rename_ptr.specs.Stages as moving
use Rattle.rename_ptr.specs.declared.rename.Stage.{Stage as MoveStage}
use Rattle.worked_costs.proofs.Rooms.{is_settled}
use Rattle.worked_costs.proofs.course.Course.advance.Goals as goal

pub returns-in-More-4 : goal.returns-in-More-4
returns-in-More-4 g c = record {
  stands = subst (λ (n : Next MoveStage). moving.StandsNext c.advance-in-Move.new.volume (g.P.Pm.view c.advance-in-Move.new.pm) n) c.in-More-4.is c.in_ok-running-in-Move.ensures.stage;
  settled = is_settled c.in_ok-running-in-Move.ensures.takes c.requires.may.settled;
}

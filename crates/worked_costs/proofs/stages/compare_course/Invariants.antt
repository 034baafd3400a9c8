use Rattle.worked_costs.specs.Courses.{MayGoOn}
use Rattle.worked_costs.proofs.stages.compare_course.Given as goal

abbrev pub invariant-loop-border : goal.invariant-loop-border
invariant-loop-border g l = MayGoOn l.volume (g.P.Pm.view l.pm) l.fn.bytes l.next

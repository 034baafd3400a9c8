use Rattle.std.proofs.Common.{rules, sym, subst, ◌∙◌}
use Rattle.std.specs.Prelude.{Ok}
use Rattle.pm_trait.specs.declared.event.PmFault.{PmFault}
use Rattle.pm_trait.specs.Unfolds.{Takes}
use Rattle.pm_trait.proofs.Unfolding.{done}
use Rattle.rename_ptr.specs.Stages.{step_of}
use Rattle.rename_ptr.specs.declared.rename.Stage.{Stage}
use Rattle.rename_ptr.proofs.Stepping.{failed_as}
use Rattle.rename_ptr.proofs.rename.Running.step.Goals as goal
use Rattle.rename_ptr.proofs.rename.Running.step.Goals.{in-Nothing, in-Moving+in_ok-move_on-in-Moving}

pub returns-in_err-move_on-in-Moving-clause-takes : goal.returns-in_err-move_on-in-Moving-clause-takes
returns-in_err-move_on-in-Moving-clause-takes g c =
    let before = g.P.Pm.view c.args.pm.now in
    let result = c.from_residual.result in
    subst (λ (stage : Stage). Takes (step_of c.args.volume.now stage) before (g.P.Pm.view c.move_on.new.pm) result) (sym c.in-Moving.is ∙ c.self.view_is) (failed_as result c.from_residual.ensures.0 c.in_err-move_on-in-Moving.ensures.takes)

pub returns-clause-takes : goal.returns-clause-takes
returns-clause-takes g c =
    let volume = c.args.volume.now in
    let before = g.P.Pm.view c.args.pm.now in
    elim c.match-self.branch [
      | in-Nothing w ↦ search rules
      | in-Moving+in_ok-move_on-in-Moving w ↦ rw (w.pm-is, w.result-is)
          (subst (λ (stage : Stage). Takes {E = PmFault} (step_of volume stage) before (g.P.Pm.view w.move_on.new.pm) (Ok w.go_over.result)) (sym w.in-Moving.is ∙ c.self.view_is) (done w.go_over.result w.in_ok-move_on-in-Moving.ensures.takes))
    ]

use Rattle.std.proofs.Common.{◌-◌, sym, subst}
use Rattle.std.specs.Prelude.{Result}
use Rattle.pm_trait.specs.Unfolds.{Takes}
use Rattle.pm_trait.proofs.Unfolding.{done}
use Rattle.volume.specs.Volume.{VolumeView}
use Rattle.rename_ptr.specs.Stages.{KnowsMove, EntersMoving, step_of}
use Rattle.rename_ptr.specs.declared.rename.Stage.TheVariants.{Moving as Moves}
use Rattle.rename_ptr.proofs.Known.{knows_kept}
use Rattle.rename_ptr.proofs.Stepping.{settled, stage_next}
use Rattle.rename_ptr.proofs.rename.move_on.Goals as goal

pub take_in-requires : goal.take_in-requires
take_in-requires g c =
    let old = c.args.volume.now in
    let m = c.args.moving.now in
    let kept = settled old (g.P.Pm.view c.args.pm.now) m c.args.progress c.requires.stands c.step_events.result c.settle.new.volume (sym c.in_ok-settle.ensures.same) c.step_events.ensures c.in_ok-settle.ensures.volume in
    record { knows = subst (λ (v : VolumeView). KnowsMove v m c.args.progress) (sym kept) (knows_kept old (old.kept - (step_of old (Moves m c.args.progress)).events) m c.args.progress c.requires.stands.at.1) }

pub returns-clause-takes : goal.returns-clause-takes
returns-clause-takes g c =
    let step = step_of c.args.volume.now (Moves c.args.moving.now c.args.progress) in
    done tt (subst (λ (r : Result _ _). Takes step (g.P.Pm.view c.args.pm.now) (g.P.Pm.view c.make_step-made.new.pm) r) (sym c.in_ok-settle.ensures.same) c.make_step-made.ensures.takes)

pub returns-clause-volume : goal.returns-clause-volume
returns-clause-volume g c =
    let old = c.args.volume.now in
    let m = c.args.moving.now in
    let kept = settled old (g.P.Pm.view c.args.pm.now) m c.args.progress c.requires.stands c.step_events.result c.settle.new.volume (sym c.in_ok-settle.ensures.same) c.step_events.ensures c.in_ok-settle.ensures.volume in
    record { made = subst (λ (v : VolumeView). EntersMoving m c.args.progress v c.take_in.new.volume) kept c.take_in.ensures; failed = tt }

pub returns-clause-stage : goal.returns-clause-stage
returns-clause-stage g c =
    let old = c.args.volume.now in
    let m = c.args.moving.now in
    let before = g.P.Pm.view c.args.pm.now in
    let after = g.P.Pm.view c.make_step-made.new.pm in
    let takes = subst (λ (r : Result _ _). Takes (step_of old (Moves m c.args.progress)) before after r) (sym c.in_ok-settle.ensures.same) c.make_step-made.ensures.takes in
    let kept = settled old before m c.args.progress c.requires.stands c.step_events.result c.settle.new.volume (sym c.in_ok-settle.ensures.same) c.step_events.ensures c.in_ok-settle.ensures.volume in
    let enters = subst (λ (v : VolumeView). EntersMoving m c.args.progress v c.take_in.new.volume) kept c.take_in.ensures in
    stage_next old before m c.args.progress c.requires.stands c.take_in.new.volume after takes enters

use Rattle.data_ops.proofs.Going.{begun_as, gone_as, fewer_as}
use Rattle.data_ops.proofs.Carrying.{carries_on, stored_on, carries_no_further, stored_no_further}
use Rattle.data_ops.proofs.Writing.{rank, fewer, may_make, gone_on, may_begin, runs}
use Rattle.data_ops.proofs.write.apply_write.Goals as goal

pub begin-running-requires : goal.begin-running-requires
begin-running-requires g c = record { stands = (g.P.Pm.view c.args.pm.now, c.args.bytes.now, may_begin c.requires.planned c.requires.ready) }

pub loop-running-init : goal.loop-running-init
loop-running-init g c = record { gone = begun_as c.args.plan c.begin-running.ensures.volume c.begin-running.ensures.running (runs c.requires.planned c.requires.ready).begun }

pub step-requires-clause-stands : goal.step-requires-clause-stands
step-requires-clause-stands g c = c.loop-running.invariant.gone.stands

pub step-requires-clause-begins : goal.step-requires-clause-begins
step-requires-clause-begins g c = may_make c.args.volume.now c.args.plan c.args.bytes.now c.loop-running.invariant.gone

pub returns-in_err-step-clause-carries : goal.returns-in_err-step-clause-carries
returns-in_err-step-clause-carries g c =
    carries_no_further (runs c.requires.planned c.requires.ready) c.loop-running.invariant.gone c.from_residual.result c.from_residual.ensures.0 c.in_err-step.ensures.takes c.in_err-step.ensures.volume.failed

pub returns-in_err-step-clause-stored : goal.returns-in_err-step-clause-stored
returns-in_err-step-clause-stored g c = stored_no_further (runs c.requires.planned c.requires.ready) c.loop-running.invariant.gone c.from_residual.result c.from_residual.ensures.0 c.in_err-step.ensures.takes

pub loop-running-smaller : goal.loop-running-smaller
loop-running-smaller g c = fewer_as rank c.step.new.self c.in-None.is c.in_ok-step.ensures.next (fewer c.loop-running.running)

pub loop-running-preserved : goal.loop-running-preserved
loop-running-preserved g c =
    let step = c.in_ok-step.ensures in
    record { gone = gone_as c.step.new.self c.in-None.is (gone_on c.args.volume.now c.args.plan c.args.bytes.now c.loop-running.invariant.gone step.takes step.volume.made step.next step.stage) }

pub returns-in-Some : goal.returns-in-Some
returns-in-Some g c =
    let step = c.in_ok-step.ensures in
    let gone = gone_as c.step.new.self c.in-Some.is (gone_on c.args.volume.now c.args.plan c.args.bytes.now c.loop-running.invariant.gone step.takes step.volume.made step.next step.stage) in
    let comes = runs c.requires.planned c.requires.ready in
    record { carries = carries_on comes gone; stored = stored_on comes gone }

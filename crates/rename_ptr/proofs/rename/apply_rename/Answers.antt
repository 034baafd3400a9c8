use Rattle.std.proofs.Common.{◌<◌, refl, sym, ap, subst, ◌∙◌}
use Rattle.std.specs.Prelude.{Option, Err}
use Rattle.tree_model.specs.declared.reply.Reply.{Reply}
use Rattle.volume.specs.Stages.{next_by}
use Rattle.volume.specs.Volume.{VolumeView}
use Rattle.volume.specs.declared.next.Next.{Next}
use Rattle.volume.specs.declared.next.Next.TheVariants.{More}
use Rattle.rename_ptr.specs.declared.rename.Stage.{Stage}
use Rattle.rename_ptr.proofs.Called.{may_begin, gone_first, carried, carried_err, stored_ok, stored_err}
use Rattle.rename_ptr.proofs.Going.{HasGone, rank, may_advance, failed, fewer, goes_on}
use Rattle.rename_ptr.proofs.rename.apply_rename.Goals as goal

pub begin-running-requires : goal.begin-running-requires
begin-running-requires g c = record { stands = (g.P.Pm.view c.args.pm.now, may_begin c.requires.planned c.requires.ready) }

pub loop-reply-init : goal.loop-reply-init
loop-reply-init g c = record { gone = gone_first c.requires.planned c.requires.ready c.begin-running.new.volume c.begin-running.result c.begin-running.ensures.running c.begin-running.ensures.volume }

pub step-requires-clause-stands : goal.step-requires-clause-stands
step-requires-clause-stands g c = c.loop-reply.invariant.gone.stands

pub step-requires-clause-begins : goal.step-requires-clause-begins
step-requires-clause-begins g c = may_advance c.args.volume.now (g.P.Pm.view c.args.pm.now) c.args.plan c.loop-reply.volume (g.P.Pm.view c.loop-reply.pm) c.loop-reply.running c.loop-reply.invariant.gone

pub returns-in_err-step : goal.returns-in_err-step
returns-in_err-step g c =
    let old = c.args.volume.now in
    let before = g.P.Pm.view c.args.pm.now in
    let volume = c.loop-reply.volume in
    let now = g.P.Pm.view c.loop-reply.pm in
    let after = g.P.Pm.view c.step.new.pm in
    let gone = c.loop-reply.invariant.gone in
    let stopped = c.in_err-step.ensures.volume.failed in
    record {
      carries = carried_err c.requires.planned c.requires.ready c.name_of_plan.ensures c.step.new.volume after c.from_residual.result c.from_residual.ensures.0
          (λ fault. failed old before c.args.plan volume now c.loop-reply.running gone after (Err fault) refl c.in_err-step.ensures.takes)
          (ap (λ (v : VolumeView). v.stopped) stopped) (ap (λ (v : VolumeView). v.size) stopped ∙ gone.size) (ap (λ (v : VolumeView). v.marked) stopped ∙ gone.marked);
      stored = stored_err c.requires.planned c.requires.ready c.name_of_plan.ensures after c.from_residual.result c.from_residual.ensures.0
          (λ fault. failed old before c.args.plan volume now c.loop-reply.running gone after (Err fault) refl c.in_err-step.ensures.takes);
    }

pub returns-in-Some : goal.returns-in-Some
returns-in-Some g c =
    let old = c.args.volume.now in
    let before = g.P.Pm.view c.args.pm.now in
    let new = c.step.new.volume in
    let after = g.P.Pm.view c.step.new.pm in
    let running = c.step.new.self in
    let made = c.in_ok-step.ensures in
    let gone = subst (λ (told : Option Reply). HasGone old before c.args.plan new after (next_by told running)) c.in-Some.is
    (goes_on old before c.args.plan c.loop-reply.volume (g.P.Pm.view c.loop-reply.pm) c.loop-reply.running c.loop-reply.invariant.gone new after (next_by c.in_ok-step.field-0 running) made.next made.takes made.volume.made made.stage) in
    record {
      carries = carried c.requires.planned c.requires.ready c.name_of_plan.ensures new after c.in-Some.reply gone;
      stored = stored_ok c.requires.planned c.requires.ready c.name_of_plan.ensures new after c.in-Some.reply gone;
    }

pub loop-reply-preserved : goal.loop-reply-preserved
loop-reply-preserved g c =
    let old = c.args.volume.now in
    let before = g.P.Pm.view c.args.pm.now in
    let new = c.step.new.volume in
    let after = g.P.Pm.view c.step.new.pm in
    let running = c.step.new.self in
    let made = c.in_ok-step.ensures in
    record {
      gone = subst (λ (told : Option Reply). HasGone old before c.args.plan new after (next_by told running)) c.in-None.is
          (goes_on old before c.args.plan c.loop-reply.volume (g.P.Pm.view c.loop-reply.pm) c.loop-reply.running c.loop-reply.invariant.gone new after (next_by c.in_ok-step.field-0 running) made.next made.takes made.volume.made made.stage);
    }

pub loop-reply-smaller : goal.loop-reply-smaller
loop-reply-smaller g c =
    let was = c.loop-reply.running in
    let less = fewer c.loop-reply.volume (g.P.Pm.view c.loop-reply.pm) was c.loop-reply.invariant.gone.stands in
    subst (λ (told : Option Reply). rank (next_by told c.step.new.self) < rank (More was)) c.in-None.is
    (subst (λ (n : Next Stage). rank n < rank (More was)) (sym c.in_ok-step.ensures.next) less)

use Rattle.std.proofs.Common.{◌<◌, length, refl, sym, ap, subst, ◌∙◌}
use Rattle.running_laws.specs.Waits.{bytes_of_command}
use Rattle.sessions.specs.Interleave.{InterleaveView}
use Rattle.sessions.specs.Tasks.{HoldFew}
use Rattle.sessions.specs.declared.interleave.TheConstants.{MOST_CALLS}
use Rattle.sessions.proofs.CarryOut.{planned_all, planned_few, planned_room, answered_steps}
use Rattle.sessions.proofs.CarrySeen.{seen_few, seen_room, seen_may, seen_stands, seen_fence, seen_steps}
use Rattle.sessions.proofs.interleave.Interleave.carry_out.Goals as goal

-- ---- a plan that reads

pub read-requires : goal.read-requires
read-requires g c =
    let (calls, history, planned) = c.requires.planned in
    record {
      planned = (
        calls,
        history,
        c.args.session,
        c.args.command.now,
        c.args.named,
        planned_all c.args.self.now (g.P.Pm.view c.args.pm.now) c.args.session c.args.command.now c.args.named c.args.plan c.requires.begun calls history planned,
      );
    }

pub answer-requires-clause-few : goal.answer-requires-clause-few
answer-requires-clause-few g c =
    let (calls, history, planned) = c.requires.planned in
    let all = planned_all c.args.self.now (g.P.Pm.view c.args.pm.now) c.args.session c.args.command.now c.args.named c.args.plan c.requires.begun calls history planned in
    let read = c.in-Some.ensures calls history c.args.session c.args.command.now c.args.named all in
    subst HoldFew (sym (ap (λ (w : InterleaveView). w.tasks) read.2))
    (planned_few c.args.self.now (g.P.Pm.view c.args.pm.now) c.args.session c.args.command.now c.args.named c.args.plan c.requires.begun calls history planned)

pub answer-requires-clause-room : goal.answer-requires-clause-room
answer-requires-clause-room g c =
    let (calls, history, planned) = c.requires.planned in
    let all = planned_all c.args.self.now (g.P.Pm.view c.args.pm.now) c.args.session c.args.command.now c.args.named c.args.plan c.requires.begun calls history planned in
    let read = c.in-Some.ensures calls history c.args.session c.args.command.now c.args.named all in
    subst (λ (w : InterleaveView). length w.entries < MOST_CALLS) (sym read.2)
    (planned_room c.args.self.now (g.P.Pm.view c.args.pm.now) c.args.session c.args.command.now c.args.named c.args.plan c.requires.begun calls history planned MOST_CALLS
    c.requires.calls)

pub returns-in-Some : goal.returns-in-Some
returns-in-Some g c = record {
  steps = λ calls history planned.
      let all = planned_all c.args.self.now (g.P.Pm.view c.args.pm.now) c.args.session c.args.command.now c.args.named c.args.plan c.requires.begun calls history planned in
      answered_steps c.args.self.now (g.P.Pm.view c.args.pm.now) c.args.session c.args.command.now c.args.named c.args.plan c.requires.begun calls history planned c.read.new.self
      c.answer.new.self (g.P.Pm.view c.answer.new.pm) c.in-Some.reply c.self.inside.begun c.answer.result (ap (λ (w : InterleaveView). w.begun) c.self.view_is)
      (c.in-Some.ensures calls history c.args.session c.args.command.now c.args.named all) c.answer.ensures;
}

-- ---- one that changes

pub begin-running-requires : goal.begin-running-requires
begin-running-requires g c =
    let (calls, history, planned) = c.requires.planned in
    let all = planned_all c.args.self.now (g.P.Pm.view c.args.pm.now) c.args.session c.args.command.now c.args.named c.args.plan c.requires.begun calls history planned in
    let read = c.in_default.ensures calls history c.args.session c.args.command.now c.args.named all in
    record {
      stands = (
        g.P.Pm.view c.args.pm.now,
        bytes_of_command c.args.command.now,
        seen_may c.args.self.now _ (g.P.Pm.view c.args.pm.now) c.args.session c.args.command.now c.args.named c.args.plan c.requires.begun calls history planned
            (c.self-2.view_is ∙ read.1) read.0,
      );
    }

pub advance-requires-clause-session : goal.advance-requires-clause-session
advance-requires-clause-session g c =
    let (calls, history, planned) = c.requires.planned in
    let all = planned_all c.args.self.now (g.P.Pm.view c.args.pm.now) c.args.session c.args.command.now c.args.named c.args.plan c.requires.begun calls history planned in
    let read = c.in_default.ensures calls history c.args.session c.args.command.now c.args.named all in
    subst (λ (w : InterleaveView). c.args.session < length w.tasks) (sym (c.self-2.view_is ∙ read.1)) c.requires.session

pub advance-requires-clause-stands : goal.advance-requires-clause-stands
advance-requires-clause-stands g c =
    let (calls, history, planned) = c.requires.planned in
    let all = planned_all c.args.self.now (g.P.Pm.view c.args.pm.now) c.args.session c.args.command.now c.args.named c.args.plan c.requires.begun calls history planned in
    let read = c.in_default.ensures calls history c.args.session c.args.command.now c.args.named all in
    seen_stands c.args.self.now _ (g.P.Pm.view c.args.pm.now) c.args.session c.args.command.now c.args.named c.args.plan c.requires.begun calls history planned
    (c.self-2.view_is ∙ read.1) read.0 c.begin-running.new.volume c.written.result.now c.begin-running.result c.begin-running.ensures.volume c.written.ensures
    c.begin-running.ensures.running

pub advance-requires-clause-fence : goal.advance-requires-clause-fence
advance-requires-clause-fence g c =
    let (calls, history, planned) = c.requires.planned in
    let all = planned_all c.args.self.now (g.P.Pm.view c.args.pm.now) c.args.session c.args.command.now c.args.named c.args.plan c.requires.begun calls history planned in
    let read = c.in_default.ensures calls history c.args.session c.args.command.now c.args.named all in
    seen_fence c.args.self.now _ (g.P.Pm.view c.args.pm.now) c.args.session c.args.command.now c.args.named c.args.plan c.requires.begun calls history planned
    (c.self-2.view_is ∙ read.1) read.0 c.begin-running.new.volume c.written.result.now c.begin-running.result c.begin-running.ensures.volume c.written.ensures
    c.begin-running.ensures.running c.requires.fences

pub advance-requires-clause-few : goal.advance-requires-clause-few
advance-requires-clause-few g c =
    let (calls, history, planned) = c.requires.planned in
    let all = planned_all c.args.self.now (g.P.Pm.view c.args.pm.now) c.args.session c.args.command.now c.args.named c.args.plan c.requires.begun calls history planned in
    let read = c.in_default.ensures calls history c.args.session c.args.command.now c.args.named all in
    seen_few c.args.self.now _ (g.P.Pm.view c.args.pm.now) c.args.session c.args.command.now c.args.named c.args.plan c.requires.begun calls history planned
    (c.self-2.view_is ∙ read.1)

pub advance-requires-clause-room : goal.advance-requires-clause-room
advance-requires-clause-room g c enters =
    let (calls, history, planned) = c.requires.planned in
    let all = planned_all c.args.self.now (g.P.Pm.view c.args.pm.now) c.args.session c.args.command.now c.args.named c.args.plan c.requires.begun calls history planned in
    let read = c.in_default.ensures calls history c.args.session c.args.command.now c.args.named all in
    seen_room c.args.self.now _ (g.P.Pm.view c.args.pm.now) c.args.session c.args.command.now c.args.named c.args.plan c.requires.begun calls history planned
    (c.self-2.view_is ∙ read.1) MOST_CALLS c.requires.calls

pub returns : goal.returns
returns g c = record {
  steps = λ calls history planned.
      let all = planned_all c.args.self.now (g.P.Pm.view c.args.pm.now) c.args.session c.args.command.now c.args.named c.args.plan c.requires.begun calls history planned in
      let read = c.in_default.ensures calls history c.args.session c.args.command.now c.args.named all in
      seen_steps c.args.self.now _ (g.P.Pm.view c.args.pm.now) c.args.session c.args.command.now c.args.named c.args.plan c.requires.begun calls history planned
      (c.self-2.view_is ∙ read.1) read.0 c.begin-running.new.volume c.written.result.now c.begin-running.result c.begin-running.ensures.volume c.written.ensures
      c.begin-running.ensures.running c.advance.new.self (g.P.Pm.view c.advance.new.pm) _ c.advance.result c.name_of_plan.ensures c.requires.session
      (record {
        number_is = ap (λ (w : InterleaveView). w.begun) c.self.view_is;
        named_is = refl;
        behind_is = c.behind_commit-behind.ensures;
        running_is = c.begin-running.ensures.running;
      })
      c.advance.ensures;
}

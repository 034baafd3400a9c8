use Rattle.std.proofs.Common.{◌∙◌, ℕ, List, [], Some, refl, sym, ap}
use Rattle.script.specs.Calls.{line_of_call}
use Rattle.tree_model.specs.Run.{Line}
use Rattle.io_edge.proofs.BytesLaws.{writes_none}
use Rattle.sessions.specs.declared.entry.StepReply.TheVariants.{Running, Ended}
use Rattle.schedules.specs.Borders.{border_of}
use Rattle.sessions.proofs.Telling.{tells_law}
use Rattle.schedules.proofs.StepTurns.{is_asked, few_begun, is_turn_of, is_told}
use Rattle.schedules.proofs.running.take_turn.Goals as goal

pub step-requires-clause-stands : goal.step-requires-clause-stands
step-requires-clause-stands g c = λ going.
    let (calls, history, border) = c.requires.border in
    let next = c.line.ensures ∙ ap Some (sym c.parse-call.ensures.call) in
    is_asked (border_of c.args.interleave.now (g.P.Pm.view c.args.pm.now) calls history c.args.left.now) c.args.session (line_of_call c.parse-call.result) (border.going going) next

pub step-requires-clause-calls : goal.step-requires-clause-calls
step-requires-clause-calls g c = λ none.
    let (calls, history, border) = c.requires.border in
    few_begun (border_of c.args.interleave.now (g.P.Pm.view c.args.pm.now) calls history c.args.left.now) c.args.session _ border c.line.ensures none

pub write_reply-requires : goal.write_reply-requires
write_reply-requires g c =
    let (calls, history, border) = c.requires.border in
    let old = border_of c.args.interleave.now (g.P.Pm.view c.args.pm.now) calls history c.args.left.now in
    let line = line_of_call c.parse-call.result in
    let next = c.line.ensures ∙ ap Some (sym c.parse-call.ensures.call) in
    let done = c.in-Ended.ensures in record {
      told = (
        history.tree,
        line,
        is_told [] 0 old c.step.new.self (g.P.Pm.view c.step.new.pm) c.args.session line (Ended c.in-Ended.number c.in-Ended.reply) border next
            (λ was. let (still, same) = done.stopped was in (still, ap g.P.Pm.view same)) (λ going may. done.steps calls history going may) tells_law c.in-Ended.number c.in-Ended.reply refl,
      );
    }

pub returns-in-Running-clause-takes : goal.returns-in-Running-clause-takes
returns-in-Running-clause-takes g c calls history schedule count border whose =
    let old = border_of c.args.interleave.now (g.P.Pm.view c.args.pm.now) calls history c.args.left.now in
    let line = line_of_call c.parse-call.result in
    let next = c.line.ensures ∙ ap Some (sym c.parse-call.ensures.call) in
    let done = c.in-Running.ensures in
    let of = is_turn_of schedule count old c.step.new.self (g.P.Pm.view c.step.new.pm) c.args.session line (Running c.in-Running.number) border next
    (λ was. let (still, same) = done.stopped was in (still, ap g.P.Pm.view same)) (λ going may. done.steps calls history going may) c.args.left.now whose refl in (
      record {
        session = c.args.session;
        line = line;
        reply = Running c.in-Running.number;
        behind = border_of c.step.new.self (g.P.Pm.view c.step.new.pm) of.calls of.history c.args.left.now;
      },
      record { is_turn = of.is_turn; reached = record { weave_is = refl; device_is = refl; left_is = refl } },
      writes_none (g.K.Sink.took c.args.sink.now) (g.K.Sink.faults c.args.sink.now) tt,
    )

pub returns-in-Ended-clause-takes : goal.returns-in-Ended-clause-takes
returns-in-Ended-clause-takes g c calls history schedule count border whose =
    let old = border_of c.args.interleave.now (g.P.Pm.view c.args.pm.now) calls history c.args.left.now in
    let line = line_of_call c.parse-call.result in
    let next = c.line.ensures ∙ ap Some (sym c.parse-call.ensures.call) in
    let done = c.in-Ended.ensures in
    let reply = Ended c.in-Ended.number c.in-Ended.reply in
    let passed = ap (λ (sessions : ℕ). record { sessions = sessions; lines = c.pass.new.self.lines }) c.pass.ensures.sessions
    ∙ ap (λ (lines : List (ℕ × Line)). record { sessions = c.args.left.now.sessions; lines = lines }) c.pass.ensures.lines in
    let of = is_turn_of schedule count old c.step.new.self (g.P.Pm.view c.step.new.pm) c.args.session line reply border next
    (λ was. let (still, same) = done.stopped was in (still, ap g.P.Pm.view same)) (λ going may. done.steps calls history going may) c.pass.new.self whose passed in
    let told = is_told schedule count old c.step.new.self (g.P.Pm.view c.step.new.pm) c.args.session line reply border next
    (λ was. let (still, same) = done.stopped was in (still, ap g.P.Pm.view same)) (λ going may. done.steps calls history going may) tells_law c.in-Ended.number c.in-Ended.reply refl in (
      record {
        session = c.args.session;
        line = line;
        reply = reply;
        behind = border_of c.step.new.self (g.P.Pm.view c.step.new.pm) of.calls of.history c.pass.new.self;
      },
      record { is_turn = of.is_turn; reached = record { weave_is = sym c.write_reply.ensures.same; device_is = refl; left_is = refl } },
      c.write_reply.ensures.writes history.tree line told,
    )

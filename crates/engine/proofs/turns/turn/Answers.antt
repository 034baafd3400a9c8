use Rattle.std.proofs.Common.{◌≡◌, false, subst, sym, ap, ◌∙◌}
use Rattle.std.specs.Prelude.{Err}
use Rattle.tree_model.specs.Run.{Line}
use Rattle.tree_model.specs.declared.reply.LineFault.TheVariants.{BadLine}
use Rattle.script.specs.Lines.{call_of}
use Rattle.script.specs.Calls.{line_of_call}
use Rattle.script.specs.Reader.{pending, current, read_count, has_ended}
use Rattle.script.specs.Reading.{rest_of}
use Rattle.script.specs.declared.run_end.RunEnd.{RunEnd}
use Rattle.script.specs.declared.run_end.RunEnd.TheVariants as end
use Rattle.volume.specs.Volume.{VolumeView}
use Rattle.engine.specs.Run.{last_state}
use Rattle.engine.specs.Session.{on}
use Rattle.engine.specs.Script.{RunsScript}
use Rattle.engine.specs.Turns.{Turned, end_at, input_of}
use Rattle.engine.proofs.Faults.{not_true}
use Rattle.engine.proofs.Taken.{executes_read_fault, executes_limit}
use Rattle.engine.proofs.Turned.{line_goes, GoesOrEnds}
use Rattle.engine.proofs.RunEnds.{run_ends}
use Rattle.engine.proofs.InputEnds.{counted_on, input_ends, takes_line, takes_long_line}
use Rattle.engine.proofs.turns.turn.Goals as goal

pub returns-in-Err-clause-goes : goal.returns-in-Err-clause-goes
returns-in-Err-clause-goes g c pages start first script began so_far =
    let unended = not_true (has_ended c.args.lines.now) (λ is. let e = (c.in-Err.ensures.end_seen is).0 in cc e) in
    run_ends so_far end.ReadFault (g.S.Source.left c.next.new.source) (g.K.Sink.took c.args.sink.now) tt
    (executes_read_fault so_far.lines (has_ended c.args.lines.now) script (rest_of (pending c.args.lines.now) (g.S.Source.left c.args.source.now)) (g.S.Source.left c.next.new.source) so_far.has_taken.told unended c.in-Err.ensures.step)
    so_far.texts

pub returns-in-Ok-End-clause-goes : goal.returns-in-Ok-End-clause-goes
returns-in-Ok-End-clause-goes g c pages start first script began so_far =
    let over = rw c.in-Ok-End.field-0-is at c.in-Ok-End.ensures.step in
    let stopped = c.stopped.ensures ∙ ap (λ (v : VolumeView). v.stopped) c.volume.ensures in
    let left = g.S.Source.left c.next.new.source in
    subst (λ (ended : RunEnd). RunsScript pages first (g.P.Pm.view c.args.pm.now) ended script left (g.K.Sink.took began) (g.K.Sink.took c.args.sink.now)) (sym (c.end_of_input.ensures ∙ ap end_at stopped))
    (input_ends so_far (rest_of (pending c.next.new.self) left) left (read_count c.next.new.self) over.2
    (counted_on 0 _ _ script _ _ so_far.has_taken.counted c.in-Ok-End.ensures.counted) (c.in-Ok-End.ensures.counts.ended over.1) over.0)

pub returns-in-Ok-Limit-clause-goes : goal.returns-in-Ok-Limit-clause-goes
returns-in-Ok-Limit-clause-goes g c pages start first script began so_far =
    let limit = rw c.in-Ok-Limit.field-0-is at c.in-Ok-Limit.ensures.step in
    let unended = not_true (has_ended c.args.lines.now) (λ is. let e = (c.in-Ok-Limit.ensures.end_seen is).0 in cc (e, c.in-Ok-Limit.field-0-is)) in
    run_ends so_far end.Limit (g.S.Source.left c.next.new.source) (g.K.Sink.took c.args.sink.now) tt
    (executes_limit so_far.lines (has_ended c.args.lines.now) script (rest_of (pending c.args.lines.now) (g.S.Source.left c.args.source.now)) (g.S.Source.left c.next.new.source) (read_count c.next.new.self) so_far.has_taken.told unended limit.0 limit.1
    (counted_on 0 _ _ script _ _ so_far.has_taken.counted c.in-Ok-Limit.ensures.counted))
    so_far.texts

pub returns-in-Ok-TooLong-clause-goes : goal.returns-in-Ok-TooLong-clause-goes
returns-in-Ok-TooLong-clause-goes g c pages start first script began so_far =
    let takes = rw c.in-Ok-TooLong.field-0-is at c.in-Ok-TooLong.ensures.step in
    let stays = λ (new : has_ended c.next.new.self ≡ false). not_true (has_ended c.args.lines.now) (λ old. let e = (c.in-Ok-TooLong.ensures.end_seen old).0 in cc (e, c.in-Ok-TooLong.field-0-is)) in
    let input = input_of c.next.new.self (g.S.Source.left c.next.new.source) in
    let has_taken = takes_long_line c.args.lines.now c.next.new.self so_far.has_taken stays c.in-Ok-TooLong.ensures.counted takes in
    let new = on c.answer.new.session (g.P.Pm.view c.answer.new.pm) in
    subst (GoesOrEnds so_far (Err BadLine) input has_taken (g.K.Sink.took c.answer.new.sink) new) (sym c.flow_of_write.ensures)
    (line_goes so_far (Err BadLine) input has_taken (g.K.Sink.took c.answer.new.sink) new c.answer.ensures.moves c.answer.result
    (c.answer.ensures.turned (last_state start so_far.states) (λ was. (so_far.going was).stands)))

pub returns-in-Ok-Line-clause-goes : goal.returns-in-Ok-Line-clause-goes
returns-in-Ok-Line-clause-goes g c pages start first script began so_far =
    let step = rw c.in-Ok-Line.field-0-is at c.in-Ok-Line.ensures.step in
    let stays = λ (new : has_ended c.next.new.self ≡ false). not_true (has_ended c.args.lines.now) (λ old. let e = (c.in-Ok-Line.ensures.end_seen old).0 in cc (e, c.in-Ok-Line.field-0-is)) in
    let line = call_of (current c.next.new.self) in
    let asked : line_of_call c.parse-call.result ≡ call_of (current c.next.new.self) = c.parse-call.ensures.call ∙ ap call_of c.line.ensures in
    let input = input_of c.next.new.self (g.S.Source.left c.next.new.source) in
    let has_taken = takes_line c.args.lines.now c.next.new.self so_far.has_taken stays c.in-Ok-Line.ensures.counted (current c.next.new.self) step.1 in
    let done = c.answer-in-Ok-Line in
    let old = on c.args.session.now (g.P.Pm.view c.args.pm.now) in
    let new = on done.new.session (g.P.Pm.view done.new.pm) in
    subst (GoesOrEnds so_far line input has_taken (g.K.Sink.took done.new.sink) new) (sym c.flow_of_write-in-Ok-Line.ensures)
    (line_goes so_far line input has_taken (g.K.Sink.took done.new.sink) new done.ensures.moves done.result
    (subst (λ (l : Line). Turned old.volume.size (last_state start so_far.states) l old new done.result (g.K.Sink.took c.args.sink.now) (g.K.Sink.took done.new.sink)) asked
    (done.ensures.turned (last_state start so_far.states) (λ was. (so_far.going was).stands))))

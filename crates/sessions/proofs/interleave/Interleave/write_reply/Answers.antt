use Rattle.std.proofs.Common.{◌++◌, sym, ap}
use Rattle.io_edge.proofs.BytesLaws.{writes_as, writes_then, writes_broken}
use Rattle.script.specs.Texts.{session_text, busy_text, answer_text}
use Rattle.sessions.specs.Texts.{weave_text, told_text, answer_in}
use Rattle.sessions.proofs.Telling.{told_there}
use Rattle.sessions.proofs.interleave.Interleave.write_reply.Goals as goal

pub write_reply-requires : goal.write_reply-requires
write_reply-requires g c =
    let (tree, line, told) = c.requires.told in
    let device = g.P.Pm.view c.args.pm.now in
    (device, answer_in tree line c.in-Plain.reply, told_there c.args.self.now _ device tree line c.args.reply.now c.in-Plain.reply c.self.view_is c.in-Plain.is told)

pub returns-in_err-write_session-clause-writes : goal.returns-in_err-write_session-clause-writes
returns-in_err-write_session-clause-writes g c = λ tree line told.
    writes_broken (session_text c.args.session) (weave_text tree line c.args.reply.now) c.from_residual.result c.from_residual.ensures.0 c.in_err-write_session.ensures

pub returns-in-Plain-clause-writes : goal.returns-in-Plain-clause-writes
returns-in-Plain-clause-writes g c = λ tree line told.
    let device = g.P.Pm.view c.args.pm.now in
    let text = session_text c.args.session ++ answer_text (answer_in tree line c.in-Plain.reply) in
    writes_as _ _ _ _ text (told_text c.args.session tree line c.args.reply.now) c.write_reply.result (ap (told_text c.args.session tree line) (sym c.in-Plain.is))
    (writes_then (g.K.Sink.took c.args.sink.now) (g.K.Sink.took c.write_session.new.sink) (g.K.Sink.took c.write_reply.new.sink) _ _ _ (session_text c.args.session) (answer_text (answer_in tree line c.in-Plain.reply)) _
    c.write_reply.result c.in_ok-write_session.ensures
    (c.write_reply.ensures.writes device (answer_in tree line c.in-Plain.reply) (told_there c.args.self.now _ device tree line c.args.reply.now c.in-Plain.reply c.self.view_is c.in-Plain.is told)))

pub returns-in-Busy-clause-writes : goal.returns-in-Busy-clause-writes
returns-in-Busy-clause-writes g c = λ tree line told.
    let text = session_text c.args.session ++ busy_text c.in-Busy.inode c.in-Busy.holder in
    writes_as _ _ _ _ text (told_text c.args.session tree line c.args.reply.now) c.write_busy.result (ap (told_text c.args.session tree line) (sym c.in-Busy.is))
    (writes_then (g.K.Sink.took c.args.sink.now) (g.K.Sink.took c.write_session.new.sink) (g.K.Sink.took c.write_busy.new.sink) _ _ _ (session_text c.args.session) (busy_text c.in-Busy.inode c.in-Busy.holder) _
    c.write_busy.result c.in_ok-write_session.ensures c.write_busy.ensures)

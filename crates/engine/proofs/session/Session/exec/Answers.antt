use Rattle.std.proofs.Common.{ℕ, List, refl, sym, ap, subst, ◌∙◌}
use Rattle.std.specs.Prelude.{Ok, Err}
use Rattle.tree_model.specs.Step.{Fault, Stopped}
use Rattle.script.specs.Calls.{line_of_call}
use Rattle.tree_model.specs.declared.reply.Reply.TheVariants as reply
use Rattle.volume.specs.Volume.{VolumeView}
use Rattle.volume.specs.Stands.{StandsFor}
use Rattle.engine.specs.Session.{SessionView, session_of}
use Rattle.engine.specs.Exec.{Does, LeavesVolume, KeepsBytes}
use Rattle.engine.proofs.Causes.{goes_on}
use Rattle.engine.proofs.Sessions.{executes_ok, executes_err, leaves_ok}
use Rattle.engine.proofs.session.Session.exec.Goals as goal

pub returns-then-stopped-clause-told : goal.returns-then-stopped-clause-told
returns-then-stopped-clause-told g c = (Stopped, record { reply_is = refl; told = tt })

pub line_reply-requires-clause-stands : goal.line_reply-requires-clause-stands
line_reply-requires-clause-stands g c =
    let volume = ap (λ (v : SessionView). v.volume) c.self.view_is in
    let going = ap (λ (v : VolumeView). v.stopped) (sym volume) ∙ sym c.if-stopped.ensures in
    let (state, stands) = c.requires.stands going in
    (state, subst (λ (v : VolumeView). StandsFor v (g.P.Pm.view c.args.pm.now) state) (sym volume) stands)

pub returns-in_default-clause-told : goal.returns-in_default-clause-told
returns-in_default-clause-told g c = (Fault, record { reply_is = refl; told = tt })

pub returns-in_default-clause-executes : goal.returns-in_default-clause-executes
returns-in_default-clause-executes g c = λ state stands was.
    let volume = ap (λ (v : SessionView). v.volume) c.self.view_is in
    let before = g.P.Pm.view c.args.pm.now in
    let after = g.P.Pm.view c.line_reply.new.pm in
    let fault = Err c.in_default.field-0 in
    executes_err reply.Fault
    (subst (λ (v : VolumeView). LeavesVolume v c.line_reply.new.volume before after fault) volume c.in_default.ensures.leaves)
    (subst (λ (s : SessionView). Does s (session_of c.line_reply.new.volume c.line_reply.new.last) before after state (line_of_call c.args.call.now) fault) c.self.view_is
    (c.in_default.ensures.does state (subst (λ (v : VolumeView). StandsFor v before state) (sym volume) stands)))

pub returns-clause-executes : goal.returns-clause-executes
returns-clause-executes g c = λ state stands was.
    let volume = ap (λ (v : SessionView). v.volume) c.self.view_is in
    let before = g.P.Pm.view c.args.pm.now in
    let between = g.P.Pm.view c.line_reply.new.pm in
    let inside = subst (λ (v : VolumeView). StandsFor v before state) (sym volume) stands in
    executes_ok c.in-Ok.reply
    (subst (λ (v : VolumeView). LeavesVolume v c.line_reply.new.volume before between (Ok c.in-Ok.reply)) volume c.in-Ok.ensures.leaves) c.ack.ensures
    (subst (λ (s : SessionView). Does s (session_of c.line_reply.new.volume c.line_reply.new.last) before between state (line_of_call c.args.call.now) (Ok c.in-Ok.reply)) c.self.view_is (c.in-Ok.ensures.does state inside))

pub returns-clause-leaves : goal.returns-clause-leaves
returns-clause-leaves g c = λ was.
    let volume = ap (λ (v : SessionView). v.volume) c.self.view_is in
    let bytes = ap (λ (v : SessionView). v.bytes) c.self.view_is in
    let before = g.P.Pm.view c.args.pm.now in
    let between = g.P.Pm.view c.line_reply.new.pm in
    let (state, stands) = c.requires.stands was in
    let done = (returns-clause-executes g c state stands was).answered c.in-Ok.ensures.leaves.going in
    leaves_ok c.args.self.now _ before between (g.P.Pm.view c.ack.new.self) c.in-Ok.reply
    (subst (λ (old : List ℕ). KeepsBytes old c.line_reply.new.last (Ok c.in-Ok.reply)) bytes c.in-Ok.ensures.bytes)
    (goes_on c.args.self.now.volume.size state (line_of_call c.args.call.now) done.answer done.new c.in-Ok.reply done.step done.replied.reply_is)
    (subst (λ (v : VolumeView). LeavesVolume v c.line_reply.new.volume before between (Ok c.in-Ok.reply)) volume c.in-Ok.ensures.leaves) c.ack.ensures

pub returns-clause-told : goal.returns-clause-told
returns-clause-told g c =
    let volume = ap (λ (v : SessionView). v.volume) c.self.view_is in
    let going = ap (λ (v : VolumeView). v.stopped) (sym volume) ∙ sym c.if-stopped.ensures in
    let (state, stands) = c.requires.stands going in
    let done = (returns-clause-executes g c state stands going).answered c.in-Ok.ensures.leaves.going in
    (done.answer, done.replied)

pub returns-clause-stands : goal.returns-clause-stands
returns-clause-stands g c = λ is.
    let volume = ap (λ (v : SessionView). v.volume) c.self.view_is in
    let going = ap (λ (v : VolumeView). v.stopped) (sym volume) ∙ sym c.if-stopped.ensures in
    let (state, stands) = c.requires.stands going in
    let done = (returns-clause-executes g c state stands going).answered is in
    (done.new, done.stands)

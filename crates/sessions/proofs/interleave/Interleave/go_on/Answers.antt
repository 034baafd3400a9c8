use Rattle.std.proofs.Common.{◌≤◌, ◌≡◌, false, refl, sym, ap, subst, ◌∙◌, arith}
use Rattle.script.specs.Calls.{line_of_call}
use Rattle.sessions.specs.Interleave.{InterleaveView}
use Rattle.sessions.proofs.Goes.{goes_on_law}
use Rattle.sessions.proofs.GoesAmong.{goes_among_law}
use Rattle.sessions.proofs.GoesAsked.{is_stopped, may_advance, steps_so}
use Rattle.sessions.proofs.WeavesHeld.{others_hold_law}
use Rattle.sessions.proofs.interleave.Interleave.go_on.Goals as goal

pub returns-then-stopped-clause-stopped : goal.returns-then-stopped-clause-stopped
returns-then-stopped-clause-stopped g c = λ stopped.
    (is_stopped c.args.self.now c.args.session c.args.task c.plain.result c.requires.session c.requires.empty c.plain.ensures, refl)

pub advance-requires-clause-stands : goal.advance-requires-clause-stands
advance-requires-clause-stands g c =
    let going : c.args.self.now.volume.stopped ≡ false = ap (λ (weave : InterleaveView). weave.volume.stopped) (sym c.self.view_is) ∙ sym c.stopped.ensures ∙ c.if-stopped.false in
    (may_advance goes_among_law others_hold_law c.args.self.now (g.P.Pm.view c.args.pm.now) c.args.session c.args.task (line_of_call c.args.call.now) c.written_by.result.now c.requires.session
    c.requires.empty c.written_by.ensures c.requires.fences (c.requires.stands going)).stands

pub advance-requires-clause-fence : goal.advance-requires-clause-fence
advance-requires-clause-fence g c =
    let going : c.args.self.now.volume.stopped ≡ false = ap (λ (weave : InterleaveView). weave.volume.stopped) (sym c.self.view_is) ∙ sym c.stopped.ensures ∙ c.if-stopped.false in
    (may_advance goes_among_law others_hold_law c.args.self.now (g.P.Pm.view c.args.pm.now) c.args.session c.args.task (line_of_call c.args.call.now) c.written_by.result.now c.requires.session
    c.requires.empty c.written_by.ensures c.requires.fences (c.requires.stands going)).fence

pub advance-requires-clause-few : goal.advance-requires-clause-few
advance-requires-clause-few g c =
    let going : c.args.self.now.volume.stopped ≡ false = ap (λ (weave : InterleaveView). weave.volume.stopped) (sym c.self.view_is) ∙ sym c.stopped.ensures ∙ c.if-stopped.false in
    (may_advance goes_among_law others_hold_law c.args.self.now (g.P.Pm.view c.args.pm.now) c.args.session c.args.task (line_of_call c.args.call.now) c.written_by.result.now c.requires.session
    c.requires.empty c.written_by.ensures c.requires.fences (c.requires.stands going)).few

pub advance-requires-clause-room : goal.advance-requires-clause-room
advance-requires-clause-room g c =
    let going : c.args.self.now.volume.stopped ≡ false = ap (λ (weave : InterleaveView). weave.volume.stopped) (sym c.self.view_is) ∙ sym c.stopped.ensures ∙ c.if-stopped.false in
    let may =
    may_advance goes_among_law others_hold_law c.args.self.now (g.P.Pm.view c.args.pm.now) c.args.session c.args.task (line_of_call c.args.call.now) c.written_by.result.now c.requires.session
    c.requires.empty c.written_by.ensures c.requires.fences (c.requires.stands going) in
    λ enters. (let fewer = may.fewer enters in omega (arith, fewer, begun))
  where
    begun : c.args.self.now.begun ≤ 65536
    begun = subst (λ (weave : InterleaveView). weave.begun ≤ 65536) c.self.view_is c.self.inside.most

pub returns-clause-steps : goal.returns-clause-steps
returns-clause-steps g c = λ calls history going may.
    steps_so goes_among_law others_hold_law c.args.self.now (g.P.Pm.view c.args.pm.now) c.args.session c.args.task (line_of_call c.args.call.now) c.written_by.result.now c.requires.session
    c.requires.empty c.written_by.ensures (goes_on_law goes_among_law others_hold_law) c.advance.new.self (g.P.Pm.view c.advance.new.pm) calls history c.advance.result may c.advance.ensures

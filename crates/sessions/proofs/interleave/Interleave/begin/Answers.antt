use Rattle.std.proofs.Common.{◌≡◌, false, refl, sym, ap, ◌∙◌}
use Rattle.script.specs.Calls.{line_of_call}
use Rattle.sessions.specs.Interleave.{InterleaveView}
use Rattle.sessions.proofs.AnswerBegin.{stopped_there, few_there, asks_there, begun_steps, unread_there}
use Rattle.sessions.proofs.WeavesHeld.{others_hold_law}
use Rattle.sessions.proofs.AnswerLaw.{answers_law}
use Rattle.sessions.proofs.interleave.Interleave.begin.Goals as goal

pub returns-then-stopped-clause-stopped : goal.returns-then-stopped-clause-stopped
returns-then-stopped-clause-stopped g c = λ stopped. (stopped_there _ _ c.self.view_is c.args.session c.requires.empty _ c.plain.ensures, refl)

pub answer-requires-clause-few : goal.answer-requires-clause-few
answer-requires-clause-few g c =
    let going : c.args.self.now.volume.stopped ≡ false = ap (λ (w : InterleaveView). w.volume.stopped) (sym c.self.view_is) ∙ sym c.stopped.ensures ∙ c.if-stopped.false in
    few_there _ _ c.self.view_is c.args.session c.requires.empty _ _ others_hold_law (c.requires.stands going)

pub begin_command-requires-clause-stands : goal.begin_command-requires-clause-stands
begin_command-requires-clause-stands g c =
    let going : c.args.self.now.volume.stopped ≡ false = ap (λ (w : InterleaveView). w.volume.stopped) (sym c.self.view_is) ∙ sym c.stopped.ensures ∙ c.if-stopped.false in
    asks_there _ _ c.self.view_is c.args.session _ c.in-Do.command (ap line_of_call c.in-Do.is) _ (c.requires.stands going)

pub returns-in-Refused-clause-steps : goal.returns-in-Refused-clause-steps
returns-in-Refused-clause-steps g c = λ calls history going.
    unread_there _ _ _ _ calls history c.args.session c.in-Refused.fault _ c.requires.empty _ _ c.self.view_is (ap line_of_call c.in-Refused.is) (answers_law others_hold_law) c.answer.ensures

pub returns-in-Do-clause-steps : goal.returns-in-Do-clause-steps
returns-in-Do-clause-steps g c = λ calls history going.
    begun_steps _ _ c.self.view_is c.args.session _ c.in-Do.command (ap line_of_call c.in-Do.is) _ _ _ calls history _ (c.begin_command.ensures.steps calls history)

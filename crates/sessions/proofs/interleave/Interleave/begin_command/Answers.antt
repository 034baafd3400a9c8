use Rattle.sessions.specs.Laws.{AnswersLaw, WeavesOnLaw, OthersHoldLaw}
use Rattle.sessions.proofs.AnswerLaw.{answers_law}
use Rattle.sessions.proofs.WeavesHeld.{others_hold_law}
use Rattle.sessions.proofs.WeavesOn.{weaves_on_law}
use Rattle.sessions.proofs.CommandCases.{stands_seen, few_held, few_seen, kept_seen, refused_walks, busy, refused_prepared, asked_seen, planned_seen, carried}
use Rattle.sessions.proofs.interleave.Interleave.begin_command.Goals as goal

weaves_on : WeavesOnLaw
weaves_on = weaves_on_law

others_hold : OthersHoldLaw
others_hold = others_hold_law

answers : AnswersLaw
answers = answers_law others_hold_law

pub named-requires-clause-stands : goal.named-requires-clause-stands
named-requires-clause-stands g c = stands_seen weaves_on others_hold _ _ c.self.view_is _ _ _ c.requires.empty c.requires.stands

pub answer-requires-clause-few : goal.answer-requires-clause-few
answer-requires-clause-few g c = few_held weaves_on others_hold _ _ c.self.view_is _ _ _ c.requires.empty c.requires.stands

pub returns-in-Err : goal.returns-in-Err
returns-in-Err g c = record {
  steps = refused_walks weaves_on others_hold _ _ c.self.view_is _ _ _ c.requires.empty answers c.requires.begun _ _ _ _ c.in-Err.ensures c.answer.ensures;
}

pub answer-requires-in-Some-clause-few : goal.answer-requires-in-Some-clause-few
answer-requires-in-Some-clause-few g c = few_held weaves_on others_hold _ _ c.self.view_is _ _ _ c.requires.empty c.requires.stands

pub returns-in-Some : goal.returns-in-Some
returns-in-Some g c = record {
  steps = busy weaves_on others_hold _ _ c.self.view_is _ _ _ c.requires.empty answers c.requires.begun _ _ _ c.in-Ok.named c.in-Ok.ensures _ c.in-Some.ensures
      c.answer-in-Some.ensures;
}

pub prepare-requires-clause-asked : goal.prepare-requires-clause-asked
prepare-requires-clause-asked g c =
    asked_seen weaves_on others_hold _ _ c.self.view_is _ _ _ c.requires.empty c.in-Ok.named c.in-Ok.ensures c.in_default.ensures c.requires.stands

pub prepare-requires-clause-kept : goal.prepare-requires-clause-kept
prepare-requires-clause-kept g c = kept_seen weaves_on others_hold _ _ c.self.view_is _ _ _ c.requires.empty c.requires.stands

pub carry_out-requires-clause-planned : goal.carry_out-requires-clause-planned
carry_out-requires-clause-planned g c =
    let ensures = c.in-Ok-prepare.ensures in
    planned_seen weaves_on others_hold _ _ c.self.view_is _ _ _ c.requires.empty c.in-Ok.named c.in-Ok.ensures c.in_default.ensures _ _ _
    ensures.leaves ensures.answers c.requires.stands

pub answer-requires-in-Err-prepare-clause-few : goal.answer-requires-in-Err-prepare-clause-few
answer-requires-in-Err-prepare-clause-few g c = few_seen weaves_on others_hold _ _ c.self.view_is _ _ _ c.requires.empty c.requires.stands

pub returns-in-Ok-prepare : goal.returns-in-Ok-prepare
returns-in-Ok-prepare g c =
    let ensures = c.in-Ok-prepare.ensures in
    record {
      steps = carried weaves_on others_hold _ _ c.self.view_is _ _ _ c.requires.empty c.in-Ok.named c.in-Ok.ensures c.in_default.ensures _ _ _ ensures.leaves ensures.answers _ _ _
          c.carry_out.ensures.steps;
    }

pub returns-in-Err-prepare : goal.returns-in-Err-prepare
returns-in-Err-prepare g c =
    let ensures = c.in-Err-prepare.ensures in
    record {
      steps = refused_prepared weaves_on others_hold _ _ c.self.view_is _ _ _ c.requires.empty answers c.requires.begun _ _ _ c.in-Ok.named c.in-Ok.ensures
          c.in_default.ensures _ _ _ ensures.answers ensures.leaves c.answer-in-Err-prepare.ensures;
    }

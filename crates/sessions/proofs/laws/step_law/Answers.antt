use Rattle.sessions.proofs.AnswerLaw.{answers_law}
use Rattle.sessions.proofs.CarryBegins.{begins_law}
use Rattle.sessions.proofs.Goes.{goes_on_law}
use Rattle.sessions.proofs.GoesAmong.{goes_among_law}
use Rattle.sessions.proofs.WeavesHeld.{others_hold_law}
use Rattle.sessions.proofs.laws.step_law.Goals as goal

pub returns-clause-answers : goal.returns-clause-answers
returns-clause-answers c = answers_law others_hold_law

pub returns-clause-begins : goal.returns-clause-begins
returns-clause-begins c = begins_law

pub returns-clause-goes_on : goal.returns-clause-goes_on
returns-clause-goes_on c = goes_on_law goes_among_law others_hold_law

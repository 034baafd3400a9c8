use Rattle.script.proofs.AnswerLines.{is_answer_line}
use Rattle.script.proofs.laws.answer_law.Goals as goal

pub returns : goal.returns
returns c = is_answer_line

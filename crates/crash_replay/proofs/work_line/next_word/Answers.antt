use Rattle.crash_replay.proofs.WorkTexts.{is_word, is_behind}
use Rattle.crash_replay.proofs.work_line.next_word.Goals as goal

pub returns-clause-word : goal.returns-clause-word
returns-clause-word c = is_word _ _ _ c.next_word.ensures

pub returns-clause-behind : goal.returns-clause-behind
returns-clause-behind c = is_behind _ _ _ c.next_word.ensures

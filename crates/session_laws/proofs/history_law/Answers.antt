use Rattle.session_laws.proofs.HistoryBegins.{history_begins_law}
use Rattle.session_laws.proofs.HistoryGoes.{history_goes_on_law}
use Rattle.session_laws.proofs.HistoryIdle.{idle_enters_law}
use Rattle.session_laws.proofs.history_law.Goals as goal

pub returns-clause-begins : goal.returns-clause-begins
returns-clause-begins c = history_begins_law

pub returns-clause-goes_on : goal.returns-clause-goes_on
returns-clause-goes_on c = history_goes_on_law

pub returns-clause-idle : goal.returns-clause-idle
returns-clause-idle c = idle_enters_law

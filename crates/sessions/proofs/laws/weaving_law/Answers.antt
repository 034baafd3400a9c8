use Rattle.sessions.proofs.WeavesOn.{weaves_on_law}
use Rattle.sessions.proofs.WeavesHeld.{others_hold_law}
use Rattle.sessions.proofs.WeavesStarts.{starts_law}
use Rattle.sessions.proofs.laws.weaving_law.Goals as goal

pub returns-clause-on : goal.returns-clause-on
returns-clause-on c = weaves_on_law

pub returns-clause-held : goal.returns-clause-held
returns-clause-held c = others_hold_law

pub returns-clause-starts : goal.returns-clause-starts
returns-clause-starts c = starts_law

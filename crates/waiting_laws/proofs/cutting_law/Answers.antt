use Rattle.waiting_laws.proofs.CuttingBegins.{cut_lowered_law, cut_at_once_law}
use Rattle.waiting_laws.proofs.CuttingSteps.{cut_trimmed_law, cut_ends_law}
use Rattle.waiting_laws.proofs.CuttingWaits.{cut_holds_law, cut_still_law}
use Rattle.waiting_laws.proofs.cutting_law.Goals as goal

pub returns-clause-lowered : goal.returns-clause-lowered
returns-clause-lowered c = cut_lowered_law

pub returns-clause-at_once : goal.returns-clause-at_once
returns-clause-at_once c = cut_at_once_law

pub returns-clause-holds : goal.returns-clause-holds
returns-clause-holds c = cut_holds_law

pub returns-clause-still : goal.returns-clause-still
returns-clause-still c = cut_still_law

pub returns-clause-trimmed : goal.returns-clause-trimmed
returns-clause-trimmed c = cut_trimmed_law

pub returns-clause-ends : goal.returns-clause-ends
returns-clause-ends c = cut_ends_law

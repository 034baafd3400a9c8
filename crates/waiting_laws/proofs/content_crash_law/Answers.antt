use Rattle.waiting_laws.proofs.ContentCrash.{growth_first_crash_law, growth_quiet_law, growth_commits_law, writing_crash_law, cut_first_crash_law, cut_quiet_law}
use Rattle.waiting_laws.proofs.content_crash_law.Goals as goal

pub returns-clause-filled : goal.returns-clause-filled
returns-clause-filled c = growth_first_crash_law

pub returns-clause-grown_quiet : goal.returns-clause-grown_quiet
returns-clause-grown_quiet c = growth_quiet_law

pub returns-clause-grown : goal.returns-clause-grown
returns-clause-grown c = growth_commits_law

pub returns-clause-written : goal.returns-clause-written
returns-clause-written c = writing_crash_law

pub returns-clause-cut : goal.returns-clause-cut
returns-clause-cut c = cut_first_crash_law

pub returns-clause-cut_quiet : goal.returns-clause-cut_quiet
returns-clause-cut_quiet c = cut_quiet_law

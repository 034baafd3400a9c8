use Rattle.weave_laws.proofs.range_law.Goals as goal
use Rattle.weave_laws.proofs.Growing as growing

pub returns-clause-filled : goal.returns-clause-filled
returns-clause-filled c = growing.filled_range_law

pub returns-clause-taken : goal.returns-clause-taken
returns-clause-taken c = growing.taken_range_law

pub returns-clause-kept : goal.returns-clause-kept
returns-clause-kept c = growing.kept_range_law

pub returns-clause-held : goal.returns-clause-held
returns-clause-held c = growing.held_range_law

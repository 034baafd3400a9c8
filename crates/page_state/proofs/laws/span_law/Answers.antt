use Rattle.page_state.proofs.Counted.{inside_law, beyond_law}
use Rattle.page_state.proofs.laws.span_law.Goals as goal

pub returns-clause-inside : goal.returns-clause-inside
returns-clause-inside c = inside_law

pub returns-clause-beyond : goal.returns-clause-beyond
returns-clause-beyond c = beyond_law

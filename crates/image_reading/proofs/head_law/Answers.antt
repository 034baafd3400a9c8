use Rattle.image_reading.proofs.head_law.Goals as goal
use Rattle.image_reading.proofs.Violations as lemmas

pub returns-clause-head : goal.returns-clause-head
returns-clause-head c = lemmas.head_law

pub returns-clause-pages : goal.returns-clause-pages
returns-clause-pages c = lemmas.pages_law

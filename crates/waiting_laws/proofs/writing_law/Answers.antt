use Rattle.waiting_laws.proofs.WritingBegins.{writing_begins_law}
use Rattle.waiting_laws.proofs.WritingInside.{writing_inside_law}
use Rattle.waiting_laws.proofs.WritingResized.{resizing_begins_law}
use Rattle.waiting_laws.proofs.writing_law.Goals as goal

pub returns-clause-begins : goal.returns-clause-begins
returns-clause-begins c = writing_begins_law

pub returns-clause-resizing : goal.returns-clause-resizing
returns-clause-resizing c = resizing_begins_law

pub returns-clause-inside : goal.returns-clause-inside
returns-clause-inside c = writing_inside_law

use Rattle.weave_laws.proofs.BytesInside.{inside_meaning_law}
use Rattle.weave_laws.proofs.BytesFilled.{filled_meaning_law}
use Rattle.weave_laws.proofs.PagesTaken.{taken_meaning_law}
use Rattle.weave_laws.proofs.bytes_law.Goals as goal

pub returns-clause-inside : goal.returns-clause-inside
returns-clause-inside c = inside_meaning_law

pub returns-clause-filled : goal.returns-clause-filled
returns-clause-filled c = filled_meaning_law

pub returns-clause-taken : goal.returns-clause-taken
returns-clause-taken c = taken_meaning_law

use Rattle.knowing_laws.proofs.entered_law.Goals as goal
use Rattle.knowing_laws.proofs.Pages as page_lemmas
use Rattle.knowing_laws.proofs.Names as name_lemmas

pub returns-clause-name : goal.returns-clause-name
returns-clause-name c = name_lemmas.name_known

pub returns-clause-pages : goal.returns-clause-pages
returns-clause-pages c = page_lemmas.pages_known

use Rattle.image_laws.proofs.index_law.Goals as goal
use Rattle.image_laws.proofs.Grown.{grown_law, new_page_grown_law}
use Rattle.image_laws.proofs.DropTidy.{shrunk_law}

pub returns-clause-old_page : goal.returns-clause-old_page
returns-clause-old_page c = grown_law

pub returns-clause-new_page : goal.returns-clause-new_page
returns-clause-new_page c = new_page_grown_law

pub returns-clause-shrunk : goal.returns-clause-shrunk
returns-clause-shrunk c = shrunk_law

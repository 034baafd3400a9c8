use Rattle.image_laws.proofs.create_law.Goals as goal
use Rattle.image_laws.proofs.Creates.{create_law}
use Rattle.image_laws.proofs.PageCreates.{new_page_law}
use Rattle.image_laws.proofs.PageQuiet.{page_quiet_law}

pub returns-clause-old_page : goal.returns-clause-old_page
returns-clause-old_page c = create_law

pub returns-clause-new_page : goal.returns-clause-new_page
returns-clause-new_page c = new_page_law

pub returns-clause-page : goal.returns-clause-page
returns-clause-page c = page_quiet_law

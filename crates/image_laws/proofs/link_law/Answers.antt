use Rattle.image_laws.proofs.link_law.Goals as goal
use Rattle.image_laws.proofs.Links.{link_law, new_page_link_law}

pub returns-clause-old_page : goal.returns-clause-old_page
returns-clause-old_page c = link_law

pub returns-clause-new_page : goal.returns-clause-new_page
returns-clause-new_page c = new_page_link_law

use Rattle.image_laws.proofs.link_step_law.Goals as goal
use Rattle.image_laws.proofs.LinkSteps.{link_room_law, link_step_law, new_page_link_step_law}

pub returns-clause-room : goal.returns-clause-room
returns-clause-room c = link_room_law

pub returns-clause-old_page : goal.returns-clause-old_page
returns-clause-old_page c = link_step_law

pub returns-clause-new_page : goal.returns-clause-new_page
returns-clause-new_page c = new_page_link_step_law

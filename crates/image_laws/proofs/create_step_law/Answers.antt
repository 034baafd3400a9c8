use Rattle.image_laws.proofs.create_step_law.Goals as goal
use Rattle.image_laws.proofs.RoomAfter.{room_after_law}
use Rattle.image_laws.proofs.CreateSteps.{create_step_law, new_page_step_law}

pub returns-clause-room : goal.returns-clause-room
returns-clause-room c = room_after_law

pub returns-clause-old_page : goal.returns-clause-old_page
returns-clause-old_page c = create_step_law

pub returns-clause-new_page : goal.returns-clause-new_page
returns-clause-new_page c = new_page_step_law

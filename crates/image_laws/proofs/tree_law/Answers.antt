use Rattle.image_laws.proofs.tree_law.Goals as goal
use Rattle.image_laws.proofs.Trees as lemmas
use Rattle.image_laws.proofs.Rooms.{room_law}

pub returns-clause-tree : goal.returns-clause-tree
returns-clause-tree c = lemmas.tree_law

pub returns-clause-form : goal.returns-clause-form
returns-clause-form c = lemmas.form_law

pub returns-clause-room : goal.returns-clause-room
returns-clause-room c = room_law

use Rattle.image_laws.proofs.move_law.Goals as goal
use Rattle.image_laws.proofs.Removes as lemmas
use Rattle.image_laws.proofs.MoveTree.{move_tree_law}
use Rattle.image_laws.proofs.MoveRoom.{move_room_law}

pub returns-clause-paths : goal.returns-clause-paths
returns-clause-paths c = lemmas.move_law

pub returns-clause-tree : goal.returns-clause-tree
returns-clause-tree c = move_tree_law

pub returns-clause-room : goal.returns-clause-room
returns-clause-room c = move_room_law

use Rattle.image_laws.proofs.remove_law.Goals as goal
use Rattle.image_laws.proofs.Removes as lemmas
use Rattle.image_laws.proofs.RemoveTree.{remove_tree_law}
use Rattle.image_laws.proofs.RemoveRoom.{remove_room_law}

pub returns-clause-paths : goal.returns-clause-paths
returns-clause-paths c = lemmas.remove_law

pub returns-clause-tree : goal.returns-clause-tree
returns-clause-tree c = remove_tree_law

pub returns-clause-room : goal.returns-clause-room
returns-clause-room c = remove_room_law

use Rattle.image_laws.proofs.resize_law.Goals as goal
use Rattle.image_laws.proofs.Resizes as lemmas

pub returns-clause-paths : goal.returns-clause-paths
returns-clause-paths c = lemmas.resize_law

pub returns-clause-tree : goal.returns-clause-tree
returns-clause-tree c = lemmas.resize_tree_law

pub returns-clause-room : goal.returns-clause-room
returns-clause-room c = lemmas.resize_room_law

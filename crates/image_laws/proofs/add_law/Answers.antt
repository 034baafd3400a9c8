use Rattle.image_laws.proofs.add_law.Goals as goal
use Rattle.image_laws.proofs.Adds as lemmas

pub returns-clause-paths : goal.returns-clause-paths
returns-clause-paths c = lemmas.add_law

pub returns-clause-tree : goal.returns-clause-tree
returns-clause-tree c = lemmas.add_tree_law

pub returns-clause-room : goal.returns-clause-room
returns-clause-room c = lemmas.add_room_law

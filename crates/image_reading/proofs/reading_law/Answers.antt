use Rattle.image_reading.proofs.reading_law.Goals as goal
use Rattle.image_reading.proofs.Readings as lemmas

pub returns-clause-tree : goal.returns-clause-tree
returns-clause-tree c = lemmas.one_tree

pub returns-clause-room : goal.returns-clause-room
returns-clause-room c = lemmas.one_room

pub returns-clause-reached : goal.returns-clause-reached
returns-clause-reached c = lemmas.reached_law

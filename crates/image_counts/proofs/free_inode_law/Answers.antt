use Rattle.image_counts.proofs.free_inode_law.Goals as goal
use Rattle.image_counts.proofs.Inodes as lemmas

pub returns-clause-beside : goal.returns-clause-beside
returns-clause-beside c = lemmas.free_inode_beside_law

pub returns-clause-tidy : goal.returns-clause-tidy
returns-clause-tidy c = lemmas.free_inode_law

use Rattle.image_counts.proofs.inode_count_law.Goals as goal
use Rattle.image_counts.proofs.Inodes as lemmas

pub returns : goal.returns
returns c = lemmas.inode_count_law

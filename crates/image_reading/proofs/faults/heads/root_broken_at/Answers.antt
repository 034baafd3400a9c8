use Rattle.std.proofs.Common.{arith}
use Rattle.image_reading.proofs.Places as lemmas
use Rattle.image_reading.proofs.faults.heads.root_broken_at.Goals as goal

pub inode_at-root-requires-clause-inode_in_range : goal.inode_at-root-requires-clause-inode_in_range
inode_at-root-requires-clause-inode_in_range c = let g = c.args.image.now.geometry in let one = lemmas.one_inode g.pages g.volume_size in omega (arith, one, g.inodes_exact)

use Rattle.running_laws.proofs.Superblock.{superblock_law}
use Rattle.running_laws.proofs.superblock_law.Goals as goal

pub returns : goal.returns
returns c = superblock_law

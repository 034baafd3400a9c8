use Rattle.std.proofs.Common.{arith}
use Rattle.image_reading.proofs.Places.{holds_at_all}
use Rattle.image_reading.proofs.Owners.{inode_past}
use Rattle.image_reading.proofs.faults.links.links_broken_at.Goals as goal

pub returns-clause-found : goal.returns-clause-found
returns-clause-found c =
    let g = c.args.walked.now.image.geometry in
    holds_at_all _ _ c.loop-inode.invariant (λ x past reached. absurd (inode_past g.pages c.args.walked.now.image.words.now x g.inodes g.volume_size g.inodes_exact (omega (arith, past)) reached))

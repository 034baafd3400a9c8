use Rattle.std.proofs.Common.{below_more, arith}
use Rattle.std.proofs.lemmas.Bool.{iff_false}
use Rattle.image_reading.proofs.Places.{holds_at_all}
use Rattle.image_reading.proofs.Owners as lemmas
use Rattle.image_reading.proofs.faults.inodes.kinds_broken_at.Goals as goal

pub returns-then-not-is_well_formed : goal.returns-then-not-is_well_formed
returns-then-not-is_well_formed c = (c.loop-inode.invariant, iff_false c.is_well_formed.ensures c.if-not-is_well_formed.true)

pub loop-inode-preserved : goal.loop-inode-preserved
loop-inode-preserved c = below_more _ _ c.loop-inode.invariant (c.is_well_formed.ensures.0 c.if-not-is_well_formed.false)

pub returns : goal.returns
returns c =
    let g = c.args.walked.now.image.geometry in
    holds_at_all _ _ c.loop-inode.invariant (λ x past. lemmas.IsWellFormed-unreached g.pages c.args.walked.now.image.words.now x (lemmas.inode_past g.pages c.args.walked.now.image.words.now x g.inodes g.volume_size g.inodes_exact (omega (arith, past))))

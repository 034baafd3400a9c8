use Rattle.std.proofs.Common.{below_more, length, arith}
use Rattle.image_reading.proofs.Places.{holds_at_all, one_inode}
use Rattle.image_reading.proofs.Walked.{reached_range}
use Rattle.image_reading.proofs.Owners.{inode_past}
use Rattle.image_reading.proofs.Stamped as lemmas
use Rattle.image_reading.proofs.faults.files.all_pages_broken_at.Goals as goal

pub loop-inode-init : goal.loop-inode-init
loop-inode-init c =
    let g = c.args.walked.now.image.geometry in
    record {
      kept = λ x lt. lemmas.all_pages_none g.pages c.args.walked.now.image.words.now x (λ reached. let least = (reached_range g.pages c.args.walked.now.image.words.now x (one_inode g.pages g.volume_size) reached).0 in omega (arith, least, lt));
      stamps = lemmas.unstamped g.pages c.fill.new.self (length c.args.stamps.now) (c.fill.ensures.after (λ y e. e)) (omega (arith, c.fill.ensures.len, c.requires.room, g.data_pages_exact));
    }

pub loop-inode-preserved : goal.loop-inode-preserved
loop-inode-preserved c = record {
  kept = below_more _ _ c.loop-inode.invariant.kept (c.has_all_pages.ensures.complete.0 c.if-not-has_all_pages.false);
  stamps = c.has_all_pages.ensures.stamps;
}

pub returns : goal.returns
returns c =
    let g = c.args.walked.now.image.geometry in
    holds_at_all _ _ c.loop-inode.invariant.kept
    (λ x past. lemmas.all_pages_none g.pages c.args.walked.now.image.words.now x (inode_past g.pages c.args.walked.now.image.words.now x g.inodes g.volume_size g.inodes_exact (omega (arith, past))))

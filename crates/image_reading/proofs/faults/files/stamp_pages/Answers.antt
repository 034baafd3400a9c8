use Rattle.std.proofs.Common.{◌-◌, get_or, arith}
use Rattle.image_reading.proofs.Stamped as lemmas
use Rattle.image_reading.proofs.faults.files.stamp_pages.Goals as goal

pub loop-link-preserved : goal.loop-link-preserved
loop-link-preserved c =
    let g = c.args.walked.now.image.geometry in
    let s = c.stamp_page-is_new in
    lemmas.file_step g.pages c.args.walked.now.image.words.now c.args.inode g.data_pages (λ _. Unit {0}) c.loop-link.stamps s.new.stamps c.loop-link.link (get_or c.args.walked.now.lists.next.now (c.loop-link.link - 1) 0)
    c.loop-link-test.true c.loop-link.invariant s.result s.ensures (c.requires.walked.linked.nexts (c.loop-link.link - 1)) (omega (arith, g.inodes_exact, c.requires.in_range)) tt

use Rattle.std.proofs.Common.{length, sym, ◌∙◌, arith}
use Rattle.image_reading.specs.Soundness.{HasOwnOffset}
use Rattle.image_reading.proofs.Places.{one_inode, holds_at_all}
use Rattle.image_reading.proofs.Walked.{reached_range}
use Rattle.image_reading.proofs.Stamped as lemmas
use Rattle.image_reading.proofs.faults.files.own_offsets_broken_at.Goals as goal

pub loop-inode-init : goal.loop-inode-init
loop-inode-init c =
    let g = c.args.walked.now.image.geometry in
    record {
      kept = λ x lt owner. lemmas.own_offset_other g.pages c.args.walked.now.image.words.now x
          (λ reached _. let least = (reached_range g.pages c.args.walked.now.image.words.now _ (one_inode g.pages g.volume_size) reached).0 in omega (arith, least, owner));
      broken = λ ne. absurd (ne g.data_pages_exact);
      stamps = lemmas.unstamped g.pages c.fill.new.self (length c.args.stamps.now) (c.fill.ensures.after (λ y e. e)) (omega (arith, c.fill.ensures.len, c.requires.room, g.data_pages_exact));
    }

pub loop-inode-preserved : goal.loop-inode-preserved
loop-inode-preserved c =
    let g = c.args.walked.now.image.geometry in
    let P = g.pages in
    let I = c.args.walked.now.image.words.now in
    let inv = c.loop-inode.invariant in
    let found = c.doubled_page_of-found in
    record {
      kept = lemmas.least_kept P I c.loop-inode.inode c.loop-inode.least c.unwrap_or.result c.min-least.result found.result g.data_pages g.data_pages_exact c.unwrap_or.ensures c.min-least.ensures found.ensures.least inv.kept;
      broken = lemmas.least_broken P I c.loop-inode.inode c.loop-inode.least c.unwrap_or.result c.min-least.result found.result g.data_pages g.data_pages_exact c.unwrap_or.ensures c.min-least.ensures found.ensures.least inv.broken;
      stamps = found.ensures.stamps;
    }

pub returns-then-least-walked : goal.returns-then-least-walked
returns-then-least-walked c =
    let g = c.args.walked.now.image.geometry in
    let P = g.pages in
    let I = c.args.walked.now.image.words.now in
    let below = lemmas.least_below P I c.loop-inode.inode c.loop-inode.least (one_inode P g.volume_size) (omega (arith, c.loop-inode-test.false, g.inodes_exact)) c.loop-inode.invariant.kept in
    holds_at_all (HasOwnOffset P I) c.loop-inode.least below (λ x past. lemmas.own_offset_past P I x (omega (arith, past, c.if-least-walked.true, g.data_pages_exact)))

pub returns : goal.returns
returns c =
    let g = c.args.walked.now.image.geometry in
    let P = g.pages in
    let I = c.args.walked.now.image.words.now in
    let below = lemmas.least_below P I c.loop-inode.inode c.loop-inode.least (one_inode P g.volume_size) (omega (arith, c.loop-inode-test.false, g.inodes_exact)) c.loop-inode.invariant.kept in
    (below, c.loop-inode.invariant.broken (λ e. c.if-least-walked.false (e ∙ sym g.data_pages_exact)))

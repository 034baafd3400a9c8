use Rattle.std.proofs.Common.{◌+◌, ◌≤◌, get_or, length, sym, ap, subst, ◌∙◌, arith, rules}
use Rattle.layout.specs.Geometry.{most_pages}
use Rattle.layout.proofs.GeometryLaws.{inodes_below}
use Rattle.image_reading.specs.Reading.{slot_owner}
use Rattle.image_reading.specs.Scan.{HasNumber, credited as credited_of}
use Rattle.image_reading.proofs.Places.{one_inode}
use Rattle.image_reading.proofs.Walked.{reached_range}
use Rattle.image_reading.proofs.ReachedTable.{in_at}
use Rattle.image_reading.proofs.Credits as lemmas
use Rattle.image_reading.proofs.faults.links.count_links.Goals as goal

pub credited-inode-requires : goal.credited-inode-requires
credited-inode-requires c =
    let P = c.args.walked.now.image.geometry.pages in
    let I = c.args.walked.now.image.words.now in
    let s = get_or c.args.names.now c.loop-k.k 0 in
    let slot = (c.requires.names.exactly s).0 (in_at c.args.names.now c.loop-k.k 0 c.loop-k-test.true) in
    let named = c.requires.walked.numbers s in
    let here : HasNumber P I s = record { in_range = slot.live.held.in_range; least = (let least = named.least slot in omega (arith, least)); most = named.most slot } in
    subst (HasNumber P I) (sym c.from.ensures) here

pub offset_bounds-tally-inode : goal.offset_bounds-tally-inode
offset_bounds-tally-inode c =
    let g = c.args.walked.now.image.geometry in
    let P = g.pages in
    let I = c.args.walked.now.image.words.now in
    let s = get_or c.args.names.now c.loop-k.k 0 in
    let slot = (c.requires.names.exactly s).0 (in_at c.args.names.now c.loop-k.k 0 c.loop-k-test.true) in
    let owner = (reached_range P I (slot_owner P I s) (one_inode P g.volume_size) slot.owner).1 in
    let within = lemmas.credited_within P I s g.inodes (g.inodes + 1) slot (c.requires.walked.numbers s) g.inodes_exact (omega arith) owner in
    let is = c.credited-inode.ensures ∙ ap (credited_of P I) c.from.ensures in
    let few = inodes_below P g.volume_size in
    let small : c.credited-inode.result ≤ most_pages = omega (arith, within, few, is, g.inodes_exact, g.volume_size) in
    search (rules, small)

pub bounds-tally-inode : goal.bounds-tally-inode
bounds-tally-inode c =
    let g = c.args.walked.now.image.geometry in
    let P = g.pages in
    let I = c.args.walked.now.image.words.now in
    let s = get_or c.args.names.now c.loop-k.k 0 in
    let slot = (c.requires.names.exactly s).0 (in_at c.args.names.now c.loop-k.k 0 c.loop-k-test.true) in
    let owner = (reached_range P I (slot_owner P I s) (one_inode P g.volume_size) slot.owner).1 in
    let within = lemmas.credited_within P I s g.inodes (length c.loop-k.tally) slot (c.requires.walked.numbers s) g.inodes_exact (omega (arith, c.loop-k.auto.tally, c.fill.ensures.len, c.requires.inodes)) owner in
    let is = c.credited-inode.ensures ∙ ap (credited_of P I) c.from.ensures in
    omega (arith, within, is)

pub bounds-tally-inode-in-loop-k : goal.bounds-tally-inode-in-loop-k
bounds-tally-inode-in-loop-k c =
    let g = c.args.walked.now.image.geometry in
    let P = g.pages in
    let I = c.args.walked.now.image.words.now in
    let s = get_or c.args.names.now c.loop-k.k 0 in
    let slot = (c.requires.names.exactly s).0 (in_at c.args.names.now c.loop-k.k 0 c.loop-k-test.true) in
    let owner = (reached_range P I (slot_owner P I s) (one_inode P g.volume_size) slot.owner).1 in
    let within = lemmas.credited_within P I s g.inodes (length c.loop-k.tally) slot (c.requires.walked.numbers s) g.inodes_exact (omega (arith, c.loop-k.auto.tally, c.fill.ensures.len, c.requires.inodes)) owner in
    let is = c.credited-inode.ensures ∙ ap (credited_of P I) c.from.ensures in
    omega (arith, within, is)

pub loop-k-preserved : goal.loop-k-preserved
loop-k-preserved c =
    let g = c.args.walked.now.image.geometry in
    let P = g.pages in
    let I = c.args.walked.now.image.words.now in
    let s = get_or c.args.names.now c.loop-k.k 0 in
    let slot = (c.requires.names.exactly s).0 (in_at c.args.names.now c.loop-k.k 0 c.loop-k-test.true) in
    let owner = (reached_range P I (slot_owner P I s) (one_inode P g.volume_size) slot.owner).1 in
    let within = lemmas.credited_within P I s g.inodes (length c.loop-k.tally) slot (c.requires.walked.numbers s) g.inodes_exact (omega (arith, c.loop-k.auto.tally, c.fill.ensures.len, c.requires.inodes)) owner in
    let is = c.credited-inode.ensures ∙ ap (credited_of P I) c.from.ensures in
    lemmas.tallied_more P I c.args.names.now c.requires.names c.loop-k.k c.loop-k.tally c.credited-inode.result c.loop-k-test.true is (omega (arith, within, is)) c.loop-k.invariant

pub returns : goal.returns
returns c =
    lemmas.tallied_all c.args.walked.now.image.geometry.pages c.args.walked.now.image.words.now c.args.names.now c.requires.names c.loop-k.k c.loop-k.tally c.loop-k-test.false
    (omega (arith, c.loop-k.auto.tally, c.fill.ensures.len, c.requires.inodes, c.args.walked.now.image.geometry.inodes_exact)) c.loop-k.invariant

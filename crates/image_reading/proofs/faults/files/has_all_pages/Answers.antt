use Rattle.std.proofs.Common.{sym, ap, ◌∙◌, arith}
use Rattle.image_reading.specs.Reading.{pages_of_size}
use Rattle.image_reading.proofs.Owners.{found_range}
use Rattle.image_reading.proofs.Stamped as lemmas
use Rattle.image_reading.proofs.faults.files.has_all_pages.Goals as goal

pub inode_at-fields-requires-clause-from_one : goal.inode_at-fields-requires-clause-from_one
inode_at-fields-requires-clause-from_one c =
    let g = c.args.walked.now.image.geometry in
    (found_range g.pages c.args.walked.now.image.words.now c.args.walked.now.reach.now c.requires.walked.known c.args.inode g.volume_size (c.has.ensures.0 c.if-not-has.false)).0

pub inode_at-fields-requires-clause-inode_in_range : goal.inode_at-fields-requires-clause-inode_in_range
inode_at-fields-requires-clause-inode_in_range c =
    let g = c.args.walked.now.image.geometry in
    let range = (found_range g.pages c.args.walked.now.image.words.now c.args.walked.now.reach.now c.requires.walked.known c.args.inode g.volume_size (c.has.ensures.0 c.if-not-has.false)).1 in
    omega (arith, range, g.inodes_exact)

pub returns-clause-complete : goal.returns-clause-complete
returns-clause-complete c =
    let g = c.args.walked.now.image.geometry in
    let I = c.args.walked.now.image.words.now in
    let reached = (c.requires.walked.known.reached c.args.inode).0 (c.has.ensures.0 c.if-not-has.false) in
    let pages = c.div_ceil.ensures ∙ lemmas.pages_of c.inode_at-fields.result.size ∙ ap pages_of_size c.inode_at-fields.ensures.size in
    let all = lemmas.all_pages g.pages I c.args.inode c.stamp_pages.new.stamps c.div_ceil.result c.stamp_pages.ensures.stamps.room pages reached
    (sym c.inode_at-fields.ensures.kind ∙ c.if-fields-ne-FILE.false) c.stamp_pages.ensures.stamped in
    ((λ t. all.0 (c.all_stamped.ensures.0 t)), (λ h. c.all_stamped.ensures.1 (all.1 h)))

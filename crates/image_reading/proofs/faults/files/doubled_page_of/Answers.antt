use Rattle.std.proofs.Common.{◌-◌, get_or, sym, ap, subst, ◌∙◌, arith}
use Rattle.std.proofs.lemmas.Bool.{both_ways}
use Rattle.layout.specs.Fields.{inode_kind}
use Rattle.image_reading.specs.Reading.{Reached, pages_of_size}
use Rattle.image_reading.specs.Soundness.{HasOwnOffset}
use Rattle.image_reading.proofs.Owners.{found_range}
use Rattle.image_reading.proofs.Stamped as lemmas
use Rattle.image_reading.proofs.faults.files.doubled_page_of.Goals as goal

pub inode_at-fields-requires-clause-from_one : goal.inode_at-fields-requires-clause-from_one
inode_at-fields-requires-clause-from_one c =
    let g = c.args.walked.now.image.geometry in
    (found_range g.pages c.args.walked.now.image.words.now c.args.walked.now.reach.now c.requires.walked.known c.args.inode g.volume_size (c.has.ensures.0 c.if-not-has.false)).0

pub inode_at-fields-requires-clause-inode_in_range : goal.inode_at-fields-requires-clause-inode_in_range
inode_at-fields-requires-clause-inode_in_range c =
    let g = c.args.walked.now.image.geometry in
    let range = (found_range g.pages c.args.walked.now.image.words.now c.args.walked.now.reach.now c.requires.walked.known c.args.inode g.volume_size (c.has.ensures.0 c.if-not-has.false)).1 in
    omega (arith, range, g.inodes_exact)

pub returns-then-not-has-clause-least : goal.returns-then-not-has-clause-least
returns-then-not-has-clause-least c = λ x owner.
    let P = c.args.walked.now.image.geometry.pages in
    let I = c.args.walked.now.image.words.now in
    lemmas.own_offset_other P I x (λ reached _. both_ways c.has.result c.if-not-has.true (c.has.ensures.1 ((c.requires.walked.known.reached c.args.inode).1 (subst (Reached P I) owner reached))))

pub returns-then-fields-ne-FILE-clause-least : goal.returns-then-fields-ne-FILE-clause-least
returns-then-fields-ne-FILE-clause-least c = λ x owner.
    let I = c.args.walked.now.image.words.now in
    lemmas.own_offset_other c.args.walked.now.image.geometry.pages I x (λ _ file. c.if-fields-ne-FILE.true (c.inode_at-fields.ensures.kind ∙ ap (inode_kind I) (sym owner) ∙ file))

pub stamp_page-requires-clause-room : goal.stamp_page-requires-clause-room
stamp_page-requires-clause-room c =
    let g = c.args.walked.now.image.geometry in
    let I = c.args.walked.now.image.words.now in
    let reached = (c.requires.walked.known.reached c.args.inode).0 (c.has.ensures.0 c.if-not-has.false) in
    let limit = c.div_ceil-limit.ensures ∙ lemmas.pages_of c.inode_at-fields.result.size ∙ ap pages_of_size c.inode_at-fields.ensures.size in
    let few = lemmas.offsets_within g.pages I c.args.inode c.div_ceil-limit.result
    (λ k lt. c.requires.complete reached (sym c.inode_at-fields.ensures.kind ∙ c.if-fields-ne-FILE.false) k (omega (arith, lt, limit))) in
    omega (arith, few, g.data_pages_exact, c.loop-link.auto.stamps, c.requires.stamps.room)

pub returns-then-not-stamp_page-clause-least : goal.returns-then-not-stamp_page-clause-least
returns-then-not-stamp_page-clause-least c =
    let P = c.args.walked.now.image.geometry.pages in
    let I = c.args.walked.now.image.words.now in
    let reached = (c.requires.walked.known.reached c.args.inode).0 (c.has.ensures.0 c.if-not-has.false) in
    let limit = c.div_ceil-limit.ensures ∙ lemmas.pages_of c.inode_at-fields.result.size ∙ ap pages_of_size c.inode_at-fields.ensures.size in (
      lemmas.own_before P I c.args.inode c.div_ceil-limit.result c.loop-link.stamps c.loop-link.link c.loop-link-test.true c.loop-link.invariant,
      lemmas.own_not P I c.args.inode c.div_ceil-limit.result c.loop-link.stamps c.loop-link.link c.loop-link-test.true c.loop-link.invariant limit reached
          (sym c.inode_at-fields.ensures.kind ∙ c.if-fields-ne-FILE.false) (c.stamp_page.ensures.doubled c.if-not-stamp_page.true),
    )

pub loop-link-preserved : goal.loop-link-preserved
loop-link-preserved c =
    let g = c.args.walked.now.image.geometry in
    let P = g.pages in
    let I = c.args.walked.now.image.words.now in
    let s = c.stamp_page in
    let found = c.has.ensures.0 c.if-not-has.false in
    let range = (found_range P I c.args.walked.now.reach.now c.requires.walked.known c.args.inode g.volume_size found).1 in
    let limit = c.div_ceil-limit.ensures ∙ lemmas.pages_of c.inode_at-fields.result.size ∙ ap pages_of_size c.inode_at-fields.ensures.size in
    let own = lemmas.own_here P I c.args.inode c.div_ceil-limit.result c.loop-link.stamps c.loop-link.link c.loop-link-test.true c.loop-link.invariant limit (s.ensures.fresh c.if-not-stamp_page.false) in
    lemmas.file_step P I c.args.inode c.div_ceil-limit.result (HasOwnOffset P I) c.loop-link.stamps s.new.stamps c.loop-link.link (get_or c.args.walked.now.lists.next.now (c.loop-link.link - 1) 0)
    c.loop-link-test.true c.loop-link.invariant s.result s.ensures (c.requires.walked.linked.nexts (c.loop-link.link - 1)) range own

pub returns-clause-least : goal.returns-clause-least
returns-clause-least c =
    lemmas.own_all c.args.walked.now.image.geometry.pages c.args.walked.now.image.words.now c.args.inode c.div_ceil-limit.result c.loop-link.stamps c.loop-link.link c.loop-link-test.false c.loop-link.invariant

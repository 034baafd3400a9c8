use Rattle.std.proofs.Common.{sym, ◌∙◌, eq-eqb, arith}
use Rattle.std.proofs.lemmas.Bool.{eqb-true, false≢true, both_ways}
use Rattle.image_reading.proofs.Owners as lemmas
use Rattle.image_reading.proofs.slots.is_reached_slot.Goals as goal

pub returns-then-not-has : goal.returns-then-not-has
returns-then-not-has c =
    let g = c.args.walked.now.image.geometry in
    let d = c.owner_of-owner in (
      (λ t. absurd (false≢true t)),
      (λ slot. absurd (both_ways c.has.result c.if-not-has.true
          (c.has.ensures.1 (lemmas.owner_found g.pages c.args.walked.now.image.words.now c.args.walked.now.reach.now c.requires.known c.args.slot d.result d.ensures slot)))),
    )

pub inode_at-requires-clause-from_one : goal.inode_at-requires-clause-from_one
inode_at-requires-clause-from_one c =
    let g = c.args.walked.now.image.geometry in
    (lemmas.found_range g.pages c.args.walked.now.image.words.now c.args.walked.now.reach.now c.requires.known c.owner_of-owner.result g.volume_size (c.has.ensures.0 c.if-not-has.false)).0

pub inode_at-requires-clause-inode_in_range : goal.inode_at-requires-clause-inode_in_range
inode_at-requires-clause-inode_in_range c =
    let g = c.args.walked.now.image.geometry in
    let range = (lemmas.found_range g.pages c.args.walked.now.image.words.now c.args.walked.now.reach.now c.requires.known c.owner_of-owner.result g.volume_size (c.has.ensures.0 c.if-not-has.false)).1 in
    omega (arith, range, g.inodes_exact)

pub returns : goal.returns
returns c =
    let g = c.args.walked.now.image.geometry in
    let d = c.owner_of-owner in
    let kind = c.inode_at.ensures.kind in (
      (λ t. lemmas.reached_slot g.pages c.args.walked.now.image.words.now c.args.walked.now.reach.now c.requires.known c.args.slot d.result
          (c.is_live.ensures.0 c.if-not-is_live.false) d.ensures (c.has.ensures.0 c.if-not-has.false) (sym kind ∙ eqb-true _ _ t)),
      (λ slot. eq-eqb _ _ (kind ∙ lemmas.owner_directory g.pages c.args.walked.now.image.words.now c.args.walked.now.reach.now c.requires.known c.args.slot d.result d.ensures slot)),
    )

use Rattle.std.proofs.Common.{inl, inr, sym, ◌∙◌, arith}
use Rattle.std.proofs.lemmas.Bool.{false≢true}
use Rattle.layout.specs.declared.kinds.NodeKind.TheVariants.{File, Directory}
use Rattle.image_reading.proofs.Owners as lemmas
use Rattle.image_reading.proofs.faults.inodes.is_well_formed.Goals as goal

pub inode_at-fields-requires-clause-from_one : goal.inode_at-fields-requires-clause-from_one
inode_at-fields-requires-clause-from_one c =
    let g = c.args.walked.now.image.geometry in
    (lemmas.found_range g.pages c.args.walked.now.image.words.now c.args.walked.now.reach.now c.requires.known c.args.inode g.volume_size (c.has.ensures.0 c.if-not-has.false)).0

pub inode_at-fields-requires-clause-inode_in_range : goal.inode_at-fields-requires-clause-inode_in_range
inode_at-fields-requires-clause-inode_in_range c =
    let g = c.args.walked.now.image.geometry in
    let range = (lemmas.found_range g.pages c.args.walked.now.image.words.now c.args.walked.now.reach.now c.requires.known c.args.inode g.volume_size (c.has.ensures.0 c.if-not-has.false)).1 in
    omega (arith, range, g.inodes_exact)

pub returns-in-None : goal.returns-in-None
returns-in-None c =
    let is = c.inode_at-fields.ensures.kind in (
      (λ t. absurd (false≢true t)),
      (λ formed. elim (formed.kind ((c.requires.known.reached c.args.inode).0 (c.has.ensures.0 c.if-not-has.false))) [
        | inl file ↦ absurd (c.in-None.ensures File (sym file ∙ sym is))
        | inr directory ↦ absurd (c.in-None.ensures Directory (sym directory ∙ sym is))
      ]),
    )

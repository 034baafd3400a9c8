use Rattle.std.proofs.Common.{refl, sym, ap, ◌∙◌, arith}
use Rattle.layout.specs.Fields.{inode_kind}
use Rattle.layout.specs.declared.kinds.NodeKind.TheVariants.{File, Directory}
use Rattle.image_reading.proofs.Owners as lemmas
use Rattle.image_reading.proofs.faults.inodes.has_owners_kind.Goals as goal

pub inode_at-owner-requires-clause-from_one : goal.inode_at-owner-requires-clause-from_one
inode_at-owner-requires-clause-from_one c =
    let g = c.args.walked.now.image.geometry in
    (lemmas.found_range g.pages c.args.walked.now.image.words.now c.args.walked.now.reach.now c.requires.walked.known c.descriptor_at-descriptor.result.owner g.volume_size (c.has.ensures.0 c.if-not-has.false)).0

pub inode_at-owner-requires-clause-inode_in_range : goal.inode_at-owner-requires-clause-inode_in_range
inode_at-owner-requires-clause-inode_in_range c =
    let g = c.args.walked.now.image.geometry in
    let range = (lemmas.found_range g.pages c.args.walked.now.image.words.now c.args.walked.now.reach.now c.requires.walked.known c.descriptor_at-descriptor.result.owner g.volume_size (c.has.ensures.0 c.if-not-has.false)).1 in
    omega (arith, range, g.inodes_exact)

pub returns-in-None : goal.returns-in-None
returns-in-None c =
    let is = c.inode_at-owner.ensures.kind ∙ ap (inode_kind c.args.walked.now.image.words.now) c.descriptor_at-descriptor.ensures.owner in (
      (λ _. record { file = λ _ _ file. absurd (c.in-None.ensures File (sym file ∙ sym is)); directory = λ _ _ directory. absurd (c.in-None.ensures Directory (sym directory ∙ sym is)) }),
      (λ _. refl),
    )

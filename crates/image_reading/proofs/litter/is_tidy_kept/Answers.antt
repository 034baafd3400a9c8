use Rattle.std.proofs.Common.{refl, sym, ap, ◌∙◌, arith}
use Rattle.layout.specs.Fields.{inode_kind}
use Rattle.image_reading.proofs.Readers.{kept_owner}
use Rattle.image_reading.proofs.Tidying.{in_range, file_page_tidy, zeros_tidy, tidy_zeros}
use Rattle.image_reading.proofs.litter.is_tidy_kept.Goals as goal

pub inode_at-requires-clause-from_one : goal.inode_at-requires-clause-from_one
inode_at-requires-clause-from_one c =
    let image = c.args.scanned.now.image in
    let least = (in_range image.geometry.pages image.words.now _ c.requires.scanned.coherent (kept_owner _ _ c.args.page c.requires.kept)).0 in
    omega (arith, least, c.descriptor_at-owner.ensures.owner)

pub inode_at-requires-clause-inode_in_range : goal.inode_at-requires-clause-inode_in_range
inode_at-requires-clause-inode_in_range c =
    let image = c.args.scanned.now.image in
    let most = (in_range image.geometry.pages image.words.now _ c.requires.scanned.coherent (kept_owner _ _ c.args.page c.requires.kept)).1 in
    omega (arith, most, c.descriptor_at-owner.ensures.owner, image.geometry.inodes_exact)

pub returns-then-inode_at-eq-FILE : goal.returns-then-inode_at-eq-FILE
returns-then-inode_at-eq-FILE c =
    let kind = ap (inode_kind c.args.scanned.now.image.words.now) c.descriptor_at-owner.ensures.owner in
    let file = sym kind ∙ sym c.inode_at.ensures.kind ∙ c.if-inode_at-eq-FILE.true in
    ((λ t. file_page_tidy _ _ c.args.page c.requires.kept file), (λ tidy. refl))

pub returns : goal.returns
returns c =
    let kind = ap (inode_kind c.args.scanned.now.image.words.now) c.descriptor_at-owner.ensures.owner in (
      (λ t. zeros_tidy _ _ c.args.page c.requires.kept (c.has_zero_slots.ensures.0 t)),
      (λ tidy. c.has_zero_slots.ensures.1 (tidy_zeros _ _ c.args.page c.requires.kept (λ file. c.if-inode_at-eq-FILE.false (c.inode_at.ensures.kind ∙ kind ∙ file)) tidy)),
    )

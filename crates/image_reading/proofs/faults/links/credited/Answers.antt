use Rattle.std.proofs.Common.{sym, ap, ◌∙◌}
use Rattle.layout.specs.Fields.{inode_kind}
use Rattle.image_reading.proofs.Credits as lemmas
use Rattle.image_reading.proofs.faults.links.credited.Goals as goal

pub returns-then-inode_at-eq-DIRECTORY : goal.returns-then-inode_at-eq-DIRECTORY
returns-then-inode_at-eq-DIRECTORY c =
    let P = c.args.image.now.geometry.pages in
    let I = c.args.image.now.words.now in
    let directory = ap (inode_kind I) (sym c.slot_at-inode.ensures.inode) ∙ sym c.inode_at.ensures.kind ∙ c.if-inode_at-eq-DIRECTORY.true in
    c.owner_of.ensures ∙ sym (lemmas.credited-directory P I c.args.slot directory)

pub returns : goal.returns
returns c =
    let P = c.args.image.now.geometry.pages in
    let I = c.args.image.now.words.now in
    let is = c.slot_at-inode.ensures.inode in
    is ∙ sym (lemmas.credited-other P I c.args.slot (λ directory. c.if-inode_at-eq-DIRECTORY.false (c.inode_at.ensures.kind ∙ ap (inode_kind I) is ∙ directory)))

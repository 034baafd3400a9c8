use Rattle.std.proofs.Common.{sym, ap, ◌∙◌, arith}
use Rattle.std.proofs.lemmas.Bool.{iff_false}
use Rattle.image_reading.specs.Reading.{pages_of_size}
use Rattle.mount_scan.proofs.Carried.{free_inode, same_kind, same_size}
use Rattle.mount_scan.proofs.Places.{pages_counted}
use Rattle.mount_scan.proofs.index.file_pages.Goals as goal

pub returns-then-not-is_reached-clause-file : goal.returns-then-not-is_reached-clause-file
returns-then-not-is_reached-clause-file c = λ K mended file.
    let image = c.args.scanned.now.image in
    let none = iff_false c.is_reached.ensures c.if-not-is_reached.true in
    let zero = (free_inode image.geometry.pages image.words.now c.requires.scanned.coherent K mended c.args.inode c.requires.inode.from_one c.requires.inode.in_range).0 none in
    absurd (omega (arith, file, zero))

pub returns-then-fields-ne-FILE-clause-file : goal.returns-then-fields-ne-FILE-clause-file
returns-then-fields-ne-FILE-clause-file c = λ K mended file.
    let image = c.args.scanned.now.image in
    let same = same_kind image.geometry.pages image.words.now c.requires.scanned.coherent K mended c.args.inode (c.is_reached.ensures.0 c.if-not-is_reached.false) in
    absurd (c.if-fields-ne-FILE.true (c.inode_at-fields.ensures.kind ∙ sym same ∙ file))

pub returns-clause-file : goal.returns-clause-file
returns-clause-file c = λ K mended file.
    let image = c.args.scanned.now.image in
    let same = same_size image.geometry.pages image.words.now c.requires.scanned.coherent K mended c.args.inode (c.is_reached.ensures.0 c.if-not-is_reached.false) in
    pages_counted c.div_ceil.result c.inode_at-fields.result.size c.div_ceil.ensures ∙ ap pages_of_size (c.inode_at-fields.ensures.size ∙ sym same)

pub returns-clause-other : goal.returns-clause-other
returns-clause-other c = λ K mended other.
    let image = c.args.scanned.now.image in
    let same = same_kind image.geometry.pages image.words.now c.requires.scanned.coherent K mended c.args.inode (c.is_reached.ensures.0 c.if-not-is_reached.false) in
    absurd (other (same ∙ sym c.inode_at-fields.ensures.kind ∙ c.if-fields-ne-FILE.false))

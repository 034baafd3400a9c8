use Rattle.std.proofs.Common.{ℕ, sym, subst, ap, ◌∙◌}
use mir.Val.{bool_byte}
use Rattle.image_reading.specs.Counts.{Count}
use Rattle.image_reading.specs.Repairs.{IsPointer}
use Rattle.mount_scan.proofs.Counted.{count_option}
use Rattle.mount_scan.proofs.Told.{counted}
use Rattle.mount_scan.proofs.counts.check_counts.Goals as goal

pub returns : goal.returns
returns c =
    let image = c.args.scanned.now.image in
    let P = image.geometry.pages in
    let W = image.words.now in
    let told = c.from.ensures ∙ ap bool_byte c.is_some.ensures in
    counted P W c.requires.coherent c.count_inodes-inodes.result c.count_pages-pages.result c.from.result c.count_inodes-inodes.ensures c.count_pages-pages.ensures
    (subst (λ (n : ℕ). Count (IsPointer P W) n) (sym told) (count_option (IsPointer P W) c.pointer.result c.pointer.ensures))

use Rattle.std.proofs.Common.{sym, subst}
use Rattle.volume.specs.Volume.{VolumeView}
use Rattle.volume.specs.Stands.{Knows}
use Rattle.mount_scan.proofs.Carried.{knows}
use Rattle.mount_scan.proofs.build.volume_of_words.Goals as goal

pub returns-clause-knows : goal.returns-clause-knows
returns-clause-knows c = λ K mended.
    let image = c.args.scanned.now.image in
    subst (λ (volume : VolumeView). Knows volume K) (sym c.from_parts.ensures)
    (knows image.geometry.pages image.words.now c.requires.coherent K mended _ _ _ _ image.whole (c.in_ok-index.ensures K mended) c.in_ok-inodes.ensures.size c.in_ok-inodes.ensures.free c.in_ok-data_pages.ensures.size c.in_ok-data_pages.ensures.free)

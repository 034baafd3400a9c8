use Rattle.std.proofs.Common.{◌*◌}
use Rattle.mount_scan.specs.Counting.{CountsPages}
use Rattle.mount_scan.proofs.counts.count_pages.Given as goal

abbrev pub invariant-loop-page : goal.invariant-loop-page
invariant-loop-page l =
    CountsPages l.scanned.image.geometry.pages l.scanned.image.words.now l.page (32 * l.page) (record { litter = l.litter; slots = l.slots })

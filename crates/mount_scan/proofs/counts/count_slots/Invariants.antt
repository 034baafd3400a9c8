use Rattle.std.proofs.Common.{◌+◌, ◌*◌}
use Rattle.mount_scan.specs.Counting.{CountsSlots}
use Rattle.mount_scan.proofs.counts.count_slots.Given as goal

abbrev pub invariant-loop-place : goal.invariant-loop-place
invariant-loop-place l = CountsSlots l.scanned.image.geometry.pages l.scanned.image.words.now (32 * l.page + l.place) l.counts

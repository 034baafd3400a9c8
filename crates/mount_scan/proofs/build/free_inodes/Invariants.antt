use Rattle.std.proofs.Common.{◌+◌}
use Rattle.image_reading.specs.Reading.{Reached}
use Rattle.mount_scan.proofs.Frees.{AreFree}
use Rattle.mount_scan.proofs.build.free_inodes.Given as goal

abbrev pub invariant-loop-number : goal.invariant-loop-number
invariant-loop-number l = AreFree (λ x. ¬ Reached l.scanned.image.geometry.pages l.scanned.image.words.now (x + 1)) l.count l.number l.numbers

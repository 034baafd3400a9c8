use Rattle.image_reading.specs.Repairs.{IsKept}
use Rattle.mount_scan.proofs.Frees.{AreFree}
use Rattle.mount_scan.proofs.build.free_pages.Given as goal

abbrev pub invariant-loop-page : goal.invariant-loop-page
invariant-loop-page l = AreFree (λ x. ¬ IsKept l.scanned.image.geometry.pages l.scanned.image.words.now x) l.count l.page l.numbers

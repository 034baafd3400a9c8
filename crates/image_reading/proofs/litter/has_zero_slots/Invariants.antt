use Rattle.std.proofs.Common.{ℕ, ◌+◌, ◌*◌, ◌<◌}
use Rattle.image_reading.specs.Reading.{IsLive}
use Rattle.image_reading.specs.Litter.{IsZeroSlot}
use Rattle.image_reading.proofs.litter.has_zero_slots.Given as goal

abbrev pub invariant-loop-place : goal.invariant-loop-place
invariant-loop-place l = (k : ℕ) → k < l.place → ¬ IsLive l.scanned.image.geometry.pages l.scanned.image.words.now (32 * l.page + k) → IsZeroSlot l.scanned.image.geometry.pages l.scanned.image.words.now (32 * l.page + k)

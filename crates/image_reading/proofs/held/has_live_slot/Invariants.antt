use Rattle.std.proofs.Common.{ℕ, ◌+◌, ◌*◌, ◌<◌}
use Rattle.image_reading.specs.Reading.{IsLive}
use Rattle.image_reading.proofs.held.has_live_slot.Given as goal

abbrev pub invariant-loop-place : goal.invariant-loop-place
invariant-loop-place l = (k : ℕ) → k < l.place → ¬ IsLive l.image.geometry.pages l.image.words.now (32 * l.page + k)

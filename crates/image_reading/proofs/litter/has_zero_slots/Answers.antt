use Rattle.std.proofs.Common.{arith, refl}
use Rattle.image_reading.specs.Reading.{IsLive}
use Rattle.image_reading.specs.Litter.{IsZeroSlot}
use Rattle.image_reading.proofs.Tidying.{slots_of_page}
use Rattle.image_reading.proofs.litter.has_zero_slots.Goals as goal

pub returns : goal.returns
returns c = (
  (λ t s at. slots_of_page (λ s. ¬ IsLive c.args.scanned.now.image.geometry.pages c.args.scanned.now.image.words.now s → IsZeroSlot c.args.scanned.now.image.geometry.pages c.args.scanned.now.image.words.now s) c.args.page (λ k lt. c.loop-place.invariant k (omega (arith, lt))) s at),
  (λ zeros. refl),
)

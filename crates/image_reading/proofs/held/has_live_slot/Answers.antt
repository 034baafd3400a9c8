use Rattle.std.proofs.Common.{arith}
use Rattle.std.proofs.lemmas.Bool.{false≢true}
use Rattle.image_reading.specs.Reading.{IsLive}
use Rattle.image_reading.proofs.Tidying.{slots_of_page}
use Rattle.image_reading.proofs.held.has_live_slot.Goals as goal

pub returns : goal.returns
returns c = (
  (λ t. absurd (false≢true t)),
  (λ (s, at, live). absurd (slots_of_page (λ s. ¬ IsLive c.args.image.now.geometry.pages c.args.image.now.words.now s) c.args.page (λ k lt. c.loop-place.invariant k (omega (arith, lt))) s at live)),
)

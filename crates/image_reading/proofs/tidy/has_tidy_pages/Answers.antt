use Rattle.std.proofs.Common.{refl, arith}
use Rattle.image_reading.proofs.Places.{holds_at_all}
use Rattle.image_reading.proofs.Tidying.{page_past}
use Rattle.image_reading.proofs.tidy.has_tidy_pages.Goals as goal

pub returns : goal.returns
returns c = ((λ t. holds_at_all _ _ c.loop-page.invariant (λ j past. page_past _ _ j (omega (arith, past)))), (λ all. refl))

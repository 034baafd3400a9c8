-- The pages that the bytes of a file are read in.
use Rattle.std.proofs.Common.{ℕ, List}
use Rattle.image_reading.specs.Reading.{HasPlace, IsPageOf}

-- A page that has the place is the one that is read there.
pub page_from_place : {P : ℕ} {I : List ℕ} {i k j : ℕ} → HasPlace P I i k j → IsPageOf P I i k j
page_from_place has_place = record { place = has_place }

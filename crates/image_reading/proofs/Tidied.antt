-- What is tidy is tidied, and what is tidied is tidy, whatever its mark.
use Rattle.std.proofs.Common.{◌≡◌, ℕ, List, false}
use Rattle.std.proofs.lemmas.Bool.{both_ways}
use Rattle.layout.specs.Superblock.{has_mark}
use Rattle.image_reading.specs.Soundness.{IsCoherent, Sound}
use Rattle.image_reading.specs.Tidy.{IsTidied, Tidy}

pub tidied : {P : ℕ} {I : List ℕ} → Tidy P I → IsTidied P I
tidied tidy = record { coherent = tidy.sound.coherent; repaired = tidy.repaired }

pub as_tidy : {P : ℕ} {I : List ℕ} → IsTidied P I → Tidy P I
as_tidy tidied = record { sound = record { coherent = tidied.coherent; mark = λ marked. tidied.repaired }; repaired = tidied.repaired }

-- what fits together without the mark is sound
pub unmarked_sound : {P : ℕ} {I : List ℕ} → has_mark I ≡ false → IsCoherent P I → Sound P I
unmarked_sound {I} unmarked coherent = record { coherent = coherent; mark = λ marked. absurd (both_ways (has_mark I) unmarked marked) }

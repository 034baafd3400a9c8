-- What a scan knows of the words that it has read.
use Rattle.std.specs.Prelude.{◌≡◌, ◌↔◌, ◌⊎◌, ℕ, ◌<◌, List}
use Rattle.std.specs.List.{AllPairs}
use Rattle.std.specs.declared.cmp.Ordering.TheVariants.{Less}
use Rattle.layout.specs.Fields.{slot_name}
use Rattle.layout.specs.Name.{name_cmp}
use Rattle.image_reading.specs.Counts.{IsIn, IsDistinct}
use Rattle.image_reading.specs.Reading.{slot_owner, IsReachedSlot}
use Rattle.image_reading.specs.Scan.{AreCounted, IsPointerAt}
use Rattle.image_reading.specs.Soundness.{IsCoherent}
use Rattle.image_reading.specs.Walk.{IsWalkDone, Knows}
use Rattle.image_reading.specs.declared.scan.Scan.{Scan}
use Rattle.image_reading.specs.declared.scanned.Scanned.{Scanned}

-- slot r stands in an earlier directory than slot s, or in the same one with an earlier name
abbrev pub IsNameBefore : ℕ → List ℕ → ℕ → ℕ → Type 0
IsNameBefore P I r s = (slot_owner P I r < slot_owner P I s) ⊎ ((slot_owner P I r ≡ slot_owner P I s) × (name_cmp (slot_name P I r) (slot_name P I s) ≡ Less))

-- The reached slots, each once, by directory and then by name.
pub record AreNames (P : ℕ) (I names : List ℕ) : Type 0 where
  pub distinct : IsDistinct names
  pub exactly : (s : ℕ) → IsIn s names ↔ IsReachedSlot P I s
  pub ordered : AllPairs (IsNameBefore P I) names

-- The walk over the words is done, the names stand in order, and the links are counted.
pub record HasScanned (words : List ℕ) (scan : Scan) : Type 0 where
  pub walk : IsWalkDone scan.geometry.pages words scan.first.items scan.next.items scan.held.items scan.reach
  pub pointer : IsPointerAt scan.geometry.pages words scan.pointer
  pub names : AreNames scan.geometry.pages words scan.names.items
  pub counted : AreCounted scan.geometry.pages words scan.tally.items

-- The words fit together, it is known what is reached, the names stand in order, and the links are counted.
pub record IsScanned (scanned : Scanned) : Type 0 where
  pub coherent : IsCoherent scanned.image.geometry.pages scanned.image.words.now
  pub known : Knows scanned.image.geometry.pages scanned.image.words.now scanned.reach.now
  pub pointer : IsPointerAt scanned.image.geometry.pages scanned.image.words.now scanned.pointer
  pub names : AreNames scanned.image.geometry.pages scanned.image.words.now scanned.names.now
  pub counted : AreCounted scanned.image.geometry.pages scanned.image.words.now scanned.tally.now

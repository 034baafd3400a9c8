use Rattle.std.proofs.Common.{◌≡◌, ◌↔◌, ℕ, List, Option, None, Some, MatchOption}
use Rattle.image_reading.specs.Repairs.{IsPointer}
use Rattle.image_reading.specs.Soundness.{IsCoherent}
use Rattle.image_reading.proofs.Readers.{one_pointer, none_at, only_at}
use Rattle.image_reading.proofs.scanned.Scanned.pointer.Goals as goal

exactly : (P : ℕ) (I : List ℕ) (found : Option ℕ) → IsCoherent P I → MatchOption found ((s : ℕ) → ¬ IsPointer P I s) (λ s. IsPointer P I s) → (s : ℕ) → (found ≡ Some s) ↔ IsPointer P I s
exactly P I None coherent none = none_at (IsPointer P I) none
exactly P I (Some p) coherent here = only_at (IsPointer P I) p here (λ s. one_pointer P I p s coherent here)

pub returns : goal.returns
returns c = let image = c.args.self.now.image in exactly image.geometry.pages image.words.now c.args.self.now.pointer c.requires.coherent c.requires.pointer

-- The residue of several calls together.
use Rattle.std.specs.Prelude.{◌≡◌, ℕ, List, ◌++◌}
use Rattle.std.specs.Option.{option_or}
use Rattle.image_reading.specs.Counts.{IsIn, IsListOf}
use Rattle.image_reading.specs.Residue.{Residue, IsTidyBeside}

abbrev pub joined : Residue → Residue → Residue
joined one other = record {
  pointer = option_or one.pointer other.pointer;
  slots = one.slots ++ other.slots;
  pages = one.pages ++ other.pages;
  inodes = one.inodes ++ other.inodes;
  counts = one.counts ++ other.counts;
}

-- ---- the order of places

-- the other has the same places, each once
pub record HasSamePlaces (one other : Residue) : Type 0 where
  pub pointer : other.pointer ≡ one.pointer
  pub slots : IsListOf (λ s. IsIn s one.slots) other.slots
  pub pages : IsListOf (λ j. IsIn j one.pages) other.pages
  pub inodes : IsListOf (λ i. IsIn i one.inodes) other.inodes
  pub counts : IsListOf (λ i. IsIn i one.counts) other.counts

-- It doesn't matter in which order the places stand, and so in which order the calls.
abbrev pub AnyOrderLaw : Type 0
AnyOrderLaw = (P : ℕ) (I : List ℕ) (one other : Residue) → HasSamePlaces one other → IsTidyBeside P I one → IsTidyBeside P I other

-- A rename pointer that changes together with free words.
use Rattle.std.specs.Prelude.{◌≡◌, ℕ, ◌<◌, List, set}
use Rattle.layout.specs.Fields.{page_owner, slot_pointer}
use Rattle.layout.specs.Geometry.{data_pages_of, slot_word_of}
use Rattle.image_laws.specs.Frame.{SameMeaning}
use Rattle.image_laws.specs.Free.{Stores}
use Rattle.image_laws.specs.Pointers.{CanPoint}
use Rattle.image_laws.specs.Quiet.{IsMix}

-- From X to Y slot d's pointer becomes v, each other word that changes is free, and no owner changes.
pub record StoresPointing (P : ℕ) (X Y : List ℕ) (d v : ℕ) : Type 0 where
  pub pointer : slot_pointer P Y d ≡ v
  pub rest : Stores P X (set Y (slot_word_of P d 1) (slot_pointer P X d))
  pub owners : (j : ℕ) → j < data_pages_of P → page_owner P Y j ≡ page_owner P X j

-- Where the pointer may change by itself, each mix of old and new words means the same.
abbrev pub PointingLaw : Type 0
PointingLaw = (P : ℕ) (X Y M : List ℕ) (d v : ℕ) → CanPoint P X d v → StoresPointing P X Y d v → IsMix X Y M → SameMeaning P X M

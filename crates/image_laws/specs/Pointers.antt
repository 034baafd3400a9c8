-- A rename pointer that changes, and the slot that a rename leaves.
use Rattle.std.specs.Prelude.{◌≡◌, ◌≢◌, ℕ, ◌+◌, ◌-◌, List, set}
use Rattle.layout.specs.Fields.{slot_inode, slot_pointer}
use Rattle.layout.specs.Geometry.{slot_word_of}
use Rattle.image_reading.specs.Reading.{IsHeld}
use Rattle.image_reading.specs.Soundness.{IsCoherent}
use Rattle.image_laws.specs.Frame.{SameMeaning}

-- Slot d may point at v - 1, or at none where v is 0: neither what it points at nor what it will has its inode number, and no other slot points.
pub record CanPoint (P : ℕ) (I : List ℕ) (d v : ℕ) : Type 0 where
  pub coherent : IsCoherent P I
  pub held : IsHeld P I d
  pub old : (t : ℕ) → slot_pointer P I d ≡ t + 1 → slot_inode P I d ≡ slot_inode P I t → slot_inode P I t ≡ 0
  pub new : (t : ℕ) → v ≡ t + 1 → slot_inode P I d ≡ slot_inode P I t → slot_inode P I t ≡ 0
  pub alone : (t : ℕ) → IsHeld P I t → t ≢ d → slot_pointer P I t ≡ 0
  pub target : v ≢ 0 → (v ≢ d + 1) × IsHeld P I (v - 1)

-- A rename pointer set before the commit, or cleared after it, changes no meaning.
abbrev pub PointerLaw : Type 0
PointerLaw = (P : ℕ) (I : List ℕ) (d v : ℕ) → CanPoint P I d v → SameMeaning P I (set I (slot_word_of P d 1) v)

-- Slot s was left: d points at it and has its inode number.
pub record IsLeft (P : ℕ) (I : List ℕ) (s d : ℕ) : Type 0 where
  pub coherent : IsCoherent P I
  pub source : IsHeld P I s
  pub held : IsHeld P I d
  pub pointer : slot_pointer P I d ≡ s + 1
  pub same : slot_inode P I d ≡ slot_inode P I s

-- Its inode number may become 0.
abbrev pub LeaveLaw : Type 0
LeaveLaw = (P : ℕ) (I : List ℕ) (s d : ℕ) → IsLeft P I s d → SameMeaning P I (set I (slot_word_of P s 0) 0)

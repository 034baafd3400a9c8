-- What the definitions determine, and what formatting leaves.
use Rattle.std.specs.Prelude.{◌≡◌, ◌↔◌, ℕ, ◌*◌, ◌<◌, ◌≤◌, Bool, IsTrue, List, length, slice_index}
use Rattle.layout.specs.Geometry.{IsVolumeSize, inodes_of}
use Rattle.layout.specs.Superblock.{head_of}
use Rattle.layout.specs.Fields.{word, slot_inode}
use Rattle.layout.specs.Format.{IsFormattedFrom}
use Rattle.tree_model.specs.Tree.{Tree, Room, fresh, fresh_room}
use Rattle.image_reading.specs.Reading.{IsDirectory, slot_owner, IsLive, Reached, IsReachedSlot, Reads, HasRoom}
use Rattle.image_reading.specs.Repairs.{RepairCounts, HasRepairs}
use Rattle.image_reading.specs.Residue.{Residue, no_residue, repairs_of, IsTidyBeside}
use Rattle.image_reading.specs.Soundness.{IsCoherent, Sound, KeepsRule1, IsFirstViolation, pages_in_image}
use Rattle.image_reading.specs.declared.Violation.{Violation}
use Rattle.image_reading.specs.Tidy.{IsTidied, Tidy}

-- An image reads as one tree at most.
abbrev pub OneTree : Type 0
OneTree = (P : ℕ) (I : List ℕ) (T U : Tree) → Reads P I T → Reads P I U → T ≡ U

-- It has one room at most.
abbrev pub OneRoom : Type 0
OneRoom = (P : ℕ) (I : List ℕ) (r s : Room) → HasRoom P I r → HasRoom P I s → r ≡ s

-- What is reached is the root and what live slots in pages of reached directories name, and nothing else: it is within
-- each set that has these.
pub record IsLeastSet (P : ℕ) (I : List ℕ) : Type 0 where
  pub root : Reached P I 1
  pub named : (s : ℕ) → IsReachedSlot P I s → slot_inode P I s ≤ inodes_of P → Reached P I (slot_inode P I s)
  pub least : (set : ℕ → Bool) → IsTrue (set 1)
      → ((s : ℕ) → IsTrue (set (slot_owner P I s)) → IsDirectory I (slot_owner P I s) → IsLive P I s → slot_inode P I s ≤ inodes_of P → IsTrue (set (slot_inode P I s)))
      → (i : ℕ) → Reached P I i → IsTrue (set i)

abbrev pub ReachedLaw : Type 0
ReachedLaw = (P : ℕ) (I : List ℕ) → IsLeastSet P I

-- What recovery would repair has one number of each kind.
abbrev pub OneRepairs : Type 0
OneRepairs = (P : ℕ) (I : List ℕ) (a b : RepairCounts) → HasRepairs P I a → HasRepairs P I b → a ≡ b

-- It has as many of each as an image's residue has places,
abbrev pub ResidueLaw : Type 0
ResidueLaw = (P : ℕ) (I : List ℕ) (residue : Residue) → IsTidyBeside P I residue → HasRepairs P I (repairs_of residue)

-- and there is none exactly where words that fit together are tidy beside nothing.
abbrev pub TidiedLaw : Type 0
TidiedLaw = (P : ℕ) (I : List ℕ) → IsTidied P I ↔ (IsCoherent P I × IsTidyBeside P I no_residue)

-- the length and the head of a volume of P pages
pub record IsVolume (P : ℕ) (I : List ℕ) : Type 0 where
  pub size : IsVolumeSize P
  pub whole : length I ≡ 512 * P
  pub head : (a : ℕ) → a < 5 → word I a ≡ slice_index (head_of P) a

-- Rule 1 holds where the length is that of a volume of P pages and the first five words are its head,
abbrev pub HeadLaw : Type 0
HeadLaw = (P : ℕ) (I : List ℕ) → KeepsRule1 P I ↔ IsVolume P I

-- and then P is the number of pages that the length says.
abbrev pub PagesLaw : Type 0
PagesLaw = (P : ℕ) (I : List ℕ) → KeepsRule1 P I → pages_in_image I ≡ P

-- An image has one first violation at most,
abbrev pub OneViolation : Type 0
OneViolation = (I : List ℕ) (one other : Violation) → IsFirstViolation I one → IsFirstViolation I other → one ≡ other

-- and a sound one has none.
abbrev pub NoViolation : Type 0
NoViolation = (I : List ℕ) (violation : Violation) → Sound (pages_in_image I) I → IsFirstViolation I violation → ⊥

-- a volume with the root alone
pub record IsFresh (P : ℕ) (I : List ℕ) : Type 0 where
  pub sound : Sound P I
  pub tidy : Tidy P I
  pub tree : Reads P I fresh
  pub room : HasRoom P I fresh_room

-- Formatting leaves such a volume.
abbrev pub FormatLaw : Type 0
FormatLaw = (P : ℕ) (old new : List ℕ) → IsVolumeSize P → IsFormattedFrom P old new → IsFresh P new

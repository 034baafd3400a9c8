-- The repairs that an image needs: in each step the objects whose words aren't yet what recovery makes of them.
use Rattle.std.specs.Prelude.{◌≡◌, ◌↔◌, ℕ, ◌<◌, List, length, slice_index, Some}
use Rattle.layout.specs.Fields.{inode_words, descriptor_words}
use Rattle.image_reading.specs.Reading.{IsLinkCount}
use Rattle.image_reading.specs.Repairs.{IsPointer, IsLitterCount, IsLitterInode, IsLeft}
use Rattle.repair_laws.specs.Stored.{HasNeedlessOwner, HasDeadName, HasNeedlessKind}
use Rattle.recovery.specs.declared.repairs.Repairs.{Repairs}
use Rattle.recovery.specs.Parts.{IsRising}

-- the list is this set, each number once, in rising order
pub record IsListOf (Q : ℕ → Type 0) (numbers : List ℕ) : Type 0 where
  pub rising : IsRising numbers
  pub each : (place : ℕ) → place < length numbers → Q (slice_index numbers place)
  pub all : (n : ℕ) → Q n → (place : ℕ) × (place < length numbers) × (slice_index numbers place ≡ n)

-- These are the repairs of the image W.
pub record IsPlanOf (W : List ℕ) (r : Repairs) : Type 0 where
  pub left : (s : ℕ) → (r.left ≡ Some s) ↔ IsLeft r.geometry.pages W s
  pub pointer : (d : ℕ) → (r.pointer ≡ Some d) ↔ IsPointer r.geometry.pages W d
  pub owners : IsListOf (HasNeedlessOwner r.geometry.pages W) r.owners.items
  pub slots : IsListOf (HasDeadName r.geometry.pages W) r.slots.items
  pub links : IsListOf (IsLitterCount r.geometry.pages W) r.links.items
  pub counts : (place : ℕ) → place < length r.links.items → IsLinkCount r.geometry.pages W (slice_index r.links.items place) (slice_index r.counts.items place)
  pub descriptors : IsListOf (HasNeedlessKind r.geometry.pages W) r.descriptors.items
  pub descriptor_width : r.descriptor_width ≡ descriptor_words W
  pub inodes : IsListOf (IsLitterInode r.geometry.pages W) r.inodes.items
  pub inode_width : r.inode_width ≡ inode_words W

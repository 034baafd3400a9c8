-- Owners that change between 0 and a number g in pages that aren't needed.
use Rattle.std.specs.Prelude.{◌≡◌, ◌≢◌, ◌⊎◌, ℕ, ◌+◌, ◌≤◌, List}
use Rattle.layout.specs.Fields.{inode_size, page_owner, page_kind, page_offset, slot_inode, slot_pointer}
use Rattle.layout.specs.Geometry.{page_of_slot}
use Rattle.image_reading.specs.Reading.{IsDirectory, HasBytes, IsHeld, Reached, pages_of_size}
use Rattle.image_reading.specs.Soundness.{IsCoherent}
use Rattle.image_laws.specs.Agrees.{AreIdle}

-- The owner of page j is 0 or g in I and in J, the rest of what is used of it is the same in both, and the page isn't needed:
-- g isn't reached, or is a reached file whose end is before the page, or is a directory that has no name in the page.
pub record IsExempt (P : ℕ) (I J : List ℕ) (j g : ℕ) : Type 0 where
  pub before : (page_owner P I j ≡ 0) ⊎ (page_owner P I j ≡ g)
  pub after : (page_owner P J j ≡ 0) ⊎ (page_owner P J j ≡ g)
  pub same_kind : page_kind P J j ≡ page_kind P I j
  pub same_offset : page_offset P J j ≡ page_offset P I j
  pub file : page_kind P I j ≢ 2 → Reached P I g → (HasBytes I g) × (pages_of_size (inode_size I g) ≤ page_offset P I j) × (page_kind P I j ≡ 1)
  pub pointers : page_kind P I j ≡ 2 → (s : ℕ) → page_of_slot s ≡ j → (slot_pointer P I s ≡ 0) × (slot_pointer P J s ≡ 0)
  pub target : page_kind P I j ≡ 2 → (s d : ℕ) → page_of_slot s ≡ j → IsHeld P I d → slot_pointer P I d ≢ s + 1
  pub directory : page_kind P I j ≡ 2 → Reached P I g → IsDirectory I g
  pub empty : page_kind P I j ≡ 2 → Reached P I g → (s : ℕ) → page_of_slot s ≡ j → (slot_inode P I s ≡ 0) × (slot_inode P J s ≡ 0)

abbrev pub ExemptLaw : Type 0
ExemptLaw = (P : ℕ) (I J : List ℕ) (j g : ℕ) → IsCoherent P I → IsExempt P I J j g → AreIdle P I J j

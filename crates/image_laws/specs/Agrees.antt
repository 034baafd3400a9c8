-- What of an image is used: where J agrees with I on it, J means what I means.
use Rattle.std.specs.Prelude.{◌≡◌, ◌≢◌, ◌⊎◌, ℕ, ◌+◌, ◌<◌, ◌≤◌, List, length}
use Rattle.layout.specs.Fields.{inode_links, inode_size, page_owner, page_kind, page_offset, slot_inode, slot_pointer, slot_words}
use Rattle.layout.specs.Geometry.{data_pages_of, slots_of, page_of_slot}
use Rattle.image_reading.specs.Reading.{IsDirectory, HasBytes, slot_owner, IsHeld, IsLive, Reached, IsReachedSlot, pages_of_size}
use Rattle.image_reading.specs.Soundness.{HasHead, HasLinks, PointsAtHeld, IsOnlyPointer, IsCoherent}
use Rattle.image_laws.specs.Frame.{SameInode, AllSameBytes, SameShape, SameMeaning}

-- The owner, what is used of the page's descriptor, and of its slots where it is held as a directory page.
pub record SamePage (P : ℕ) (I J : List ℕ) (j : ℕ) : Type 0 where
  pub owner : page_owner P J j ≡ page_owner P I j
  pub kind : page_owner P I j ≢ 0 → page_kind P J j ≡ page_kind P I j
  pub offset : page_owner P I j ≢ 0 → page_offset P J j ≡ page_offset P I j
  pub inode : (s : ℕ) → page_of_slot s ≡ j → IsHeld P I s → slot_inode P J s ≡ slot_inode P I s
  pub pointer : (s : ℕ) → page_of_slot s ≡ j → IsHeld P I s → slot_pointer P J s ≡ slot_pointer P I s

-- of a reached file, past its end
pub record IsPastEnd (P : ℕ) (I X : List ℕ) (j : ℕ) : Type 0 where
  pub file : HasBytes I (page_owner P X j)
  pub kind : page_kind P X j ≡ 1
  pub past : pages_of_size (inode_size I (page_owner P X j)) ≤ page_offset P X j

-- of a reached directory, with no name in it
pub record IsEmptyPage (P : ℕ) (I X : List ℕ) (j : ℕ) : Type 0 where
  pub directory : IsDirectory I (page_owner P X j)
  pub kind : page_kind P X j ≡ 2
  pub empty : (s : ℕ) → page_of_slot s ≡ j → slot_inode P X s ≡ 0

-- As page j stands in X, the tree of I doesn't need it, and it holds no rename pointer.
pub record IsIdle (P : ℕ) (I X : List ℕ) (j : ℕ) : Type 0 where
  pub tree : page_owner P X j ≢ 0 → Reached P I (page_owner P X j) → IsPastEnd P I X j ⊎ IsEmptyPage P I X j
  pub pointers : (s : ℕ) → page_of_slot s ≡ j → IsHeld P X s → slot_pointer P X s ≡ 0

-- Page j isn't needed in I or in J, and nothing points at its slots.
pub record AreIdle (P : ℕ) (I J : List ℕ) (j : ℕ) : Type 0 where
  pub before : IsIdle P I I j
  pub after : IsIdle P I J j
  pub target : (s d : ℕ) → page_of_slot s ≡ j → IsHeld P I d → slot_pointer P I d ≢ s + 1

-- The page is needed for the tree of I by nothing that stands in X.
abbrev pub IsUnneeded : ℕ → List ℕ → List ℕ → ℕ → Type 0
IsUnneeded P I X j = page_owner P X j ≢ 0 → Reached P I (page_owner P X j) → IsPastEnd P I X j ⊎ IsEmptyPage P I X j

pub record SameDescriptor (P : ℕ) (I J : List ℕ) (j : ℕ) : Type 0 where
  pub owner : page_owner P J j ≡ page_owner P I j
  pub kind : page_owner P I j ≢ 0 → page_kind P J j ≡ page_kind P I j
  pub offset : page_owner P I j ≢ 0 → page_offset P J j ≡ page_offset P I j

pub record SameSlot (P : ℕ) (I J : List ℕ) (s : ℕ) : Type 0 where
  pub forward : IsLive P I s → IsLive P J s
  pub back : IsLive P J s → IsLive P I s
  pub inode : IsLive P I s → slot_inode P J s ≡ slot_inode P I s

-- J has the live slots of I, and agrees with I on what else is read.
pub record Alike (P : ℕ) (I J : List ℕ) : Type 0 where
  pub size : length J ≡ length I
  pub head : (x : ℕ) → HasHead P J x
  pub pages : (j : ℕ) → j < data_pages_of P → SameDescriptor P I J j ⊎ (IsUnneeded P I I j × IsUnneeded P I J j)
  pub slots : (s : ℕ) → s < slots_of P → SameDescriptor P I J (page_of_slot s) → Reached P I (slot_owner P I s) → SameSlot P I J s
  pub pointers : (s : ℕ) → PointsAtHeld P J s
  pub one_pointer : (s : ℕ) → IsOnlyPointer P J s
  pub inodes : (i : ℕ) → Reached P I i → SameInode I J i
  pub links : (i : ℕ) → Reached P I i → HasLinks P I i (inode_links J i)
  pub names : (s : ℕ) → IsReachedSlot P I s → slot_words P J s ≡ slot_words P I s

-- J agrees with I on what is used of I, but for owners of pages that aren't needed and link words within bounds.
pub record Agrees (P : ℕ) (I J : List ℕ) : Type 0 where
  pub size : length J ≡ length I
  pub head : (x : ℕ) → HasHead P J x
  pub pages : (j : ℕ) → j < data_pages_of P → SamePage P I J j ⊎ AreIdle P I J j
  pub inodes : (i : ℕ) → Reached P I i → SameInode I J i
  pub links : (i : ℕ) → Reached P I i → HasLinks P I i (inode_links J i)
  pub names : (s : ℕ) → IsReachedSlot P I s → slot_words P J s ≡ slot_words P I s

abbrev pub FrameLaw : Type 0
FrameLaw = (P : ℕ) (I J : List ℕ) → IsCoherent P I → Agrees P I J → AllSameBytes P I J → SameMeaning P I J

abbrev pub ShapeLaw : Type 0
ShapeLaw = (P : ℕ) (I J : List ℕ) → IsCoherent P I → Alike P I J → SameShape P I J

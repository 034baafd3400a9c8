-- What a recovery would repair, counted.
use Rattle.std.specs.Prelude.{◌≡◌, ◌≢◌, ◌⊎◌, ℕ, ◌+◌, ◌<◌, ◌≤◌, List}
use Rattle.layout.specs.Geometry.{inodes_of, data_pages_of, page_of_slot, inode_word_of, descriptor_word_of, slot_word_of}
use Rattle.layout.specs.Fields.{word, inode_words, descriptor_words, inode_links, inode_size, page_owner, page_offset, slot_inode, slot_pointer}
use Rattle.image_reading.specs.Counts.{Count}
use Rattle.image_reading.specs.Reading.{HasBytes, IsHeld, IsLive, Reached, IsRoomOf, IsLinkCount, pages_of_size}

-- ---- kept pages

-- a page of a reached file, below its end
pub record IsKeptFilePage (P : ℕ) (I : List ℕ) (j : ℕ) : Type 0 where
  pub in_range : j < data_pages_of P
  pub owner : Reached P I (page_owner P I j)
  pub file : HasBytes I (page_owner P I j)
  pub below : page_offset P I j < pages_of_size (inode_size I (page_owner P I j))

-- a page of a reached directory, with a live slot
abbrev pub IsKeptDirectoryPage : ℕ → List ℕ → ℕ → Type 0
IsKeptDirectoryPage P I j = IsRoomOf P I (page_owner P I j) j

abbrev pub IsKept : ℕ → List ℕ → ℕ → Type 0
IsKept P I j = IsKeptFilePage P I j ⊎ IsKeptDirectoryPage P I j

-- ---- what is repaired

-- a held slot with a rename pointer
pub record IsPointer (P : ℕ) (I : List ℕ) (s : ℕ) : Type 0 where
  pub held : IsHeld P I s
  pub nonzero : slot_pointer P I s ≢ 0

-- A committed rename left slot s: the held slot d points at it and has its inode number.
pub record WasLeft (P : ℕ) (I : List ℕ) (s d : ℕ) : Type 0 where
  pub held : IsHeld P I d
  pub points : slot_pointer P I d ≡ s + 1
  pub same : slot_inode P I d ≡ slot_inode P I s
  pub names : slot_inode P I s ≢ 0

-- a slot that a committed rename left
abbrev pub IsLeft : ℕ → List ℕ → ℕ → Type 0
IsLeft P I s = (d : ℕ) × WasLeft P I s d

-- a slot of a kept directory page that isn't live and isn't zero
pub record IsLitterSlot (P : ℕ) (I : List ℕ) (s : ℕ) : Type 0 where
  pub page : IsKeptDirectoryPage P I (page_of_slot s)
  pub dead : IsLive P I s → ⊥
  pub nonzero : (f : ℕ) × (f < 16) × (word I (slot_word_of P s f) ≢ 0)

-- a page that isn't kept, with a descriptor that isn't zero
pub record IsLitterPage (P : ℕ) (I : List ℕ) (j : ℕ) : Type 0 where
  pub in_range : j < data_pages_of P
  pub free : IsKept P I j → ⊥
  pub nonzero : (f : ℕ) × (f < descriptor_words I) × (word I (descriptor_word_of P j f) ≢ 0)

-- an inode that isn't reached and isn't zero
pub record IsLitterInode (P : ℕ) (I : List ℕ) (i : ℕ) : Type 0 where
  pub least : 1 ≤ i
  pub most : i ≤ inodes_of P
  pub unreached : Reached P I i → ⊥
  pub nonzero : (f : ℕ) × (f < inode_words I) × (word I (inode_word_of i f) ≢ 0)

-- a reached inode whose link word isn't the counted number
pub record IsLitterCount (P : ℕ) (I : List ℕ) (i : ℕ) : Type 0 where
  pub reached : Reached P I i
  pub other : IsLinkCount P I i (inode_links I i) → ⊥

-- how many there are of each
pub record RepairCounts : Type 0 where
  pub pointers : ℕ
  pub slots : ℕ
  pub pages : ℕ
  pub inodes : ℕ
  pub counts : ℕ

pub record HasRepairs (P : ℕ) (I : List ℕ) (repairs : RepairCounts) : Type 0 where
  pub of_pointers : Count (IsPointer P I) repairs.pointers
  pub of_slots : Count (IsLitterSlot P I) repairs.slots
  pub of_pages : Count (IsLitterPage P I) repairs.pages
  pub of_inodes : Count (IsLitterInode P I) repairs.inodes
  pub of_counts : Count (IsLitterCount P I) repairs.counts

abbrev pub no_repairs : RepairCounts
no_repairs = record { pointers = 0; slots = 0; pages = 0; inodes = 0; counts = 0 }

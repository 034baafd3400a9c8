-- The slots and pages of a directory, and what is free.
use Rattle.std.specs.Prelude.{◌≡◌, ◌≢◌, ℕ, ◌<◌, ◌≤◌, List}
use Rattle.layout.specs.Geometry.{inodes_of, data_pages_of, slots_of}
use Rattle.layout.specs.Fields.{inode_kind, page_owner, page_kind, slot_name}
use Rattle.image_reading.specs.Reading.{slot_owner, IsReachedSlot}

-- a reached slot of directory d, with a name
pub record IsEntryOf (P : ℕ) (I : List ℕ) (d : ℕ) (bytes : List ℕ) (s : ℕ) : Type 0 where
  pub slot : IsReachedSlot P I s
  pub owner : slot_owner P I s ≡ d
  pub name : slot_name P I s ≡ bytes

-- a reached slot of directory d, whatever its name
abbrev pub IsSlotOf : ℕ → List ℕ → ℕ → ℕ → Type 0
IsSlotOf P I d s = IsReachedSlot P I s × (slot_owner P I s ≡ d)

-- any slot of a page that is owned by inode d
pub record IsSlotIn (P : ℕ) (I : List ℕ) (d s : ℕ) : Type 0 where
  pub in_range : s < slots_of P
  pub owner : slot_owner P I s ≡ d

-- a data page that is owned by inode d
pub record IsPageIn (P : ℕ) (I : List ℕ) (d j : ℕ) : Type 0 where
  pub in_range : j < data_pages_of P
  pub owner : page_owner P I j ≡ d

-- a data page with an owner
abbrev pub IsOwnedPage : ℕ → List ℕ → ℕ → Type 0
IsOwnedPage P I j = (j < data_pages_of P) × (page_owner P I j ≢ 0)

-- and one without
abbrev pub IsFreePage : ℕ → List ℕ → ℕ → Type 0
IsFreePage P I j = (j < data_pages_of P) × (page_owner P I j ≡ 0)

-- the page has neither an owner nor a kind (one without an owner alone may be a running call's)
abbrev pub IsUnusedPage : ℕ → List ℕ → ℕ → Type 0
IsUnusedPage P I j = (page_owner P I j ≡ 0) × (page_kind P I j ≡ 0)

-- a data page that has neither
abbrev pub IsUnusedDataPage : ℕ → List ℕ → ℕ → Type 0
IsUnusedDataPage P I j = (j < data_pages_of P) × IsUnusedPage P I j

-- an inode of the table whose kind is 0
abbrev pub IsFreeInode : ℕ → List ℕ → ℕ → Type 0
IsFreeInode P I i = (1 ≤ i) × (i ≤ inodes_of P) × (inode_kind I i ≡ 0)

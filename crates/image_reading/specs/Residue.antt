-- What calls that run have left, each cut at a fence: the places that recovery would repair. P is the number of pages, I the words.
use Rattle.std.specs.Prelude.{◌≡◌, ◌≢◌, ◌↔◌, ◌⊎◌, ℕ, List, [], length, Option, Some, None}
use Rattle.layout.specs.Fields.{inode_kind, page_owner, page_kind}
use Rattle.image_reading.specs.Counts.{IsIn, IsListOf}
use Rattle.image_reading.specs.Repairs.{IsPointer, IsLitterSlot, IsLitterPage, IsLitterInode, IsLitterCount, RepairCounts}

-- The slot that points, if one does; the slots, pages and inodes to be cleared; the inodes whose link word isn't the counted number.
pub record Residue : Type 0 where
  pub pointer : Option ℕ
  pub slots : List ℕ
  pub pages : List ℕ
  pub inodes : List ℕ
  pub counts : List ℕ

abbrev pub no_residue : Residue
no_residue = record { pointer = None; slots = []; pages = []; inodes = []; counts = [] }

abbrev pub one_of : Option ℕ → ℕ
one_of None = 0
one_of (Some s) = 1

-- how many there are of each
abbrev pub repairs_of : Residue → RepairCounts
repairs_of residue = record {
  pointers = one_of residue.pointer;
  slots = length residue.slots;
  pages = length residue.pages;
  inodes = length residue.inodes;
  counts = length residue.counts;
}

-- There is something to be repaired exactly where the residue has it. What is to be cleared is in use by its words: an inode has a kind,
-- a page an owner or a kind.
pub record IsTidyBeside (P : ℕ) (I : List ℕ) (residue : Residue) : Type 0 where
  pub of_pointer : (s : ℕ) → (residue.pointer ≡ Some s) ↔ IsPointer P I s
  pub of_slots : IsListOf (IsLitterSlot P I) residue.slots
  pub of_pages : IsListOf (IsLitterPage P I) residue.pages
  pub of_inodes : IsListOf (IsLitterInode P I) residue.inodes
  pub of_counts : IsListOf (IsLitterCount P I) residue.counts
  pub kinds : (i : ℕ) → IsIn i residue.inodes → inode_kind I i ≢ 0
  pub marks : (j : ℕ) → IsIn j residue.pages → (page_owner P I j ≢ 0) ⊎ (page_kind P I j ≢ 0)

-- What is counted in the words of a sound volume, and in the tree that they read as. P is the number of pages, I the words.
use Rattle.std.specs.Prelude.{◌≡◌, ℕ, ◌<◌, List, count_by}
use Rattle.tree_model.specs.Tree.{Tree, is_directory, is_file}
use Rattle.script.specs.declared.check.CheckCounts.{CheckCounts}
use Rattle.image_reading.specs.Counts.{Count}
use Rattle.image_reading.specs.Reading.{IsFile, IsDirectory, Reached, IsReachedSlot, Reads}
use Rattle.image_reading.specs.Repairs.{RepairCounts, HasRepairs, IsLitterSlot, IsLitterPage, IsLitterInode, IsLitterCount}
use Rattle.volume.specs.Totals.{below_root}
use Rattle.mount_scan.specs.declared.counts.InodeCounts.{InodeCounts}
use Rattle.mount_scan.specs.declared.counts.PageCounts.{PageCounts}
use Rattle.mount_scan.specs.declared.counts.SlotCounts.{SlotCounts}

-- ---- of a tree, and of what recovery would repair

-- the root counted
abbrev pub directory_count : Tree → ℕ
directory_count T = count_by (λ e. is_directory T e.0) T.nodes.entries

abbrev pub file_count : Tree → ℕ
file_count T = count_by (λ e. is_file T e.0) T.nodes.entries

abbrev pub counts_of : Tree → RepairCounts → CheckCounts
counts_of T r = record {
  directories = directory_count T;
  files = file_count T;
  names = below_root T;
  pointers = r.pointers;
  slots = r.slots;
  pages = r.pages;
  inodes = r.inodes;
  counts = r.counts;
}

-- These are the counts of the tree that the words read as, and of what recovery would repair.
pub record AreCountsOf (P : ℕ) (I : List ℕ) (counts : CheckCounts) : Type 0 where
  pub tree : Tree
  pub reads : Reads P I tree
  pub repairs : RepairCounts
  pub counted : HasRepairs P I repairs
  pub are : counts ≡ counts_of tree repairs

-- ---- as far as they are counted

-- so many numbers below the limit have Q
abbrev pub CountBelow : (ℕ → Type 0) → ℕ → ℕ → Type 0
CountBelow Q limit n = Count (λ x. (x < limit) × Q x) n

-- a reached inode of this kind
abbrev pub IsReachedDirectory : ℕ → List ℕ → ℕ → Type 0
IsReachedDirectory P I i = Reached P I i × IsDirectory I i

abbrev pub IsReachedFile : ℕ → List ℕ → ℕ → Type 0
IsReachedFile P I i = Reached P I i × IsFile I i

-- of the inodes below the limit
pub record CountsInodes (P : ℕ) (I : List ℕ) (limit : ℕ) (counts : InodeCounts) : Type 0 where
  pub directories : CountBelow (IsReachedDirectory P I) limit counts.directories
  pub files : CountBelow (IsReachedFile P I) limit counts.files
  pub litter : CountBelow (IsLitterInode P I) limit counts.litter
  pub links : CountBelow (IsLitterCount P I) limit counts.links

-- of the slots below the limit
pub record CountsSlots (P : ℕ) (I : List ℕ) (limit : ℕ) (counts : SlotCounts) : Type 0 where
  pub names : CountBelow (IsReachedSlot P I) limit counts.names
  pub litter : CountBelow (IsLitterSlot P I) limit counts.litter

-- of the data pages below the limit, and of their slots
pub record CountsPages (P : ℕ) (I : List ℕ) (limit slots : ℕ) (counts : PageCounts) : Type 0 where
  pub litter : CountBelow (IsLitterPage P I) limit counts.litter
  pub in_slots : CountsSlots P I slots counts.slots

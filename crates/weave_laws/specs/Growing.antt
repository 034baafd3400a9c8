-- A file grows in three steps, and its call waits between them: what the pages hold meanwhile, told by their places in the call's lists. P is the number of pages,
-- I the words before a step, J those after it.
use Rattle.std.specs.Prelude.{◌≡◌, ℕ, ◌-◌, ◌/◌, ◌%◌, ◌≤◌, List, ◌++◌, slice_get, slice_index, Contains, Some}
use Rattle.layout.specs.Fields.{inode_size, page_byte}
use Rattle.image_reading.specs.Counts.{IsIn}
use Rattle.image_counts.specs.Entries.{IsPageIn}
use Rattle.content_laws.specs.Growth.{FillsFile, TakesPages}
use Rattle.content_laws.specs.Range.{IsInRange, IsBeside}
use Rattle.weave_laws.specs.Beside.{Keeps}
use Rattle.weave_laws.specs.Bytes.{MayFill, MayOwn, MayRaise, HoldsRange}
use Rattle.weave_laws.specs.Waiting.{AreInOrder}

-- The k-th of these pages has, as the k-th of file i, its part of the range, and beside it zeros behind the size.
pub record HaveRange (P : ℕ) (I own : List ℕ) (i offset : ℕ) (bytes : List ℕ) : Type 0 where
  pub new : (o j : ℕ) → IsInRange offset bytes o → slice_get own (o / 4096) ≡ Some j → page_byte P I j (o % 4096) ≡ slice_index bytes (o - offset)
  pub zero : (o j : ℕ) → IsBeside offset bytes o → inode_size I i ≤ o → slice_get own (o / 4096) ≡ Some j → page_byte P I j (o % 4096) ≡ 0

-- So have the file's pages with the new ones once these are filled,
abbrev pub FilledRangeLaw : Type 0
FilledRangeLaw = (P : ℕ) (I J : List ℕ) (i offset : ℕ) (bytes old pages : List ℕ) → MayFill P I i pages → AreInOrder P I old 0 (inode_size I i) → ((j : ℕ) → Contains old j → IsPageIn P I i j)
    → FillsFile P I J i offset bytes pages → HaveRange P J (old ++ pages) i offset bytes

-- still when these become the file's,
abbrev pub TakenRangeLaw : Type 0
TakenRangeLaw = (P : ℕ) (I J own : List ℕ) (i offset : ℕ) (bytes pages : List ℕ) → MayOwn P I i pages → TakesPages P I J i pages → HaveRange P I own i offset bytes → HaveRange P J own i offset bytes

-- and while others store elsewhere.
abbrev pub KeptRangeLaw : Type 0
KeptRangeLaw = (P : ℕ) (I J slots pages inodes own : List ℕ) (i offset : ℕ) (bytes : List ℕ) → Keeps P I J slots pages inodes → IsIn i inodes → ((j : ℕ) → Contains own j → IsIn j pages)
    → HaveRange P I own i offset bytes → HaveRange P J own i offset bytes

-- Then the size may rise over them.
abbrev pub HeldRangeLaw : Type 0
HeldRangeLaw = (P : ℕ) (I : List ℕ) (i z offset : ℕ) (bytes old pages : List ℕ) → MayRaise P I i z → AreInOrder P I old 0 (inode_size I i) → AreInOrder P I pages (inode_size I i) z
    → ((j : ℕ) → Contains (old ++ pages) j → IsPageIn P I i j) → HaveRange P I (old ++ pages) i offset bytes → HoldsRange P I i z offset bytes

-- A file's bytes change, or it gets new pages and a greater size, or a smaller size: what each step leaves to be repaired, beside other calls. P is the number of
-- pages, I the words before a step, J those after it.
use Rattle.std.specs.Prelude.{◌↔◌, ℕ, ◌<◌, ◌≤◌, false, List}
use Rattle.layout.specs.Fields.{inode_size, page_offset}
use Rattle.image_reading.specs.Counts.{IsIn, IsDistinct}
use Rattle.image_reading.specs.Reading.{pages_of_size}
use Rattle.image_reading.specs.Residue.{Residue, IsTidyBeside}
use Rattle.image_counts.specs.Entries.{IsPageIn}
use Rattle.content_laws.specs.Inside.{WritesInside}
use Rattle.content_laws.specs.Growth.{FillsFile, TakesPages, sized}
use Rattle.weave_laws.specs.Bytes.{MayWrite, MayFill, MayOwn, MayRaise, MayLower}
use Rattle.weave_laws.specs.Joined.{joined}
use Rattle.weave_laws.specs.Removing.{cleared_left}

-- Bytes below the size are written: what was left is left.
abbrev pub WrittenInsideLaw : Type 0
WrittenInsideLaw = (P : ℕ) (I J : List ℕ) (i offset : ℕ) (bytes : List ℕ) (residue : Residue) → MayWrite P I i offset bytes → WritesInside P I J i offset bytes
    → IsTidyBeside P I residue → IsTidyBeside P J residue

-- The pages are filled, and the file's own bytes may change: the pages are left.
abbrev pub FilledLaw : Type 0
FilledLaw = (P : ℕ) (I J : List ℕ) (i offset : ℕ) (bytes pages : List ℕ) (others : Residue) → MayFill P I i pages → FillsFile P I J i offset bytes pages
    → IsTidyBeside P I others → IsTidyBeside P J (joined (cleared_left pages false i) others)

-- they become the file's: the same is left
abbrev pub TakenLaw : Type 0
TakenLaw = (P : ℕ) (I J : List ℕ) (i : ℕ) (pages : List ℕ) (residue : Residue) → MayOwn P I i pages → TakesPages P I J i pages → IsTidyBeside P I residue → IsTidyBeside P J residue

-- the file's pages from this size on, below that one
abbrev pub ArePagesBetween : ℕ → List ℕ → ℕ → List ℕ → ℕ → ℕ → Type 0
ArePagesBetween P I i pages from to = (j : ℕ) → IsIn j pages ↔ (IsPageIn P I i j × (pages_of_size from ≤ page_offset P I j) × (page_offset P I j < pages_of_size to))

-- the size rises, and reaches them: nothing of them is left
abbrev pub RaisedLaw : Type 0
RaisedLaw = (P : ℕ) (I : List ℕ) (i z : ℕ) (pages : List ℕ) (others : Residue) → MayRaise P I i z → ArePagesBetween P I i pages (inode_size I i) z
    → IsTidyBeside P I (joined (cleared_left pages false i) others) → IsTidyBeside P (sized I i z) others

-- the size falls, and reaches them no more
abbrev pub LoweredLaw : Type 0
LoweredLaw = (P : ℕ) (I : List ℕ) (i z : ℕ) (pages : List ℕ) (others : Residue) → MayLower P I i z → IsDistinct pages → ArePagesBetween P I i pages z (inode_size I i)
    → IsTidyBeside P I others → IsTidyBeside P (sized I i z) (joined (cleared_left pages false i) others)

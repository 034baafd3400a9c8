-- A file's bytes, pages or size change: what a step asks of the words as they are, what a crash in it leaves, and what its end reads as. P is
-- the number of pages, I the words before a step, J those after it, M a mix of both. Of other calls nothing is asked: a file that a running
-- call names is named by no other.
use Rattle.std.specs.Prelude.{◌≡◌, ◌⊎◌, ℕ, ◌+◌, ◌-◌, ◌/◌, ◌%◌, ◌^◌, ◌<◌, ◌≤◌, List, length, slice_index, Contains}
use Rattle.layout.specs.Fields.{inode_size, page_kind, page_offset, page_byte}
use Rattle.tree_model.specs.Step.{with_bytes, overwritten, resized}
use Rattle.tree_model.specs.Tree.{Tree, Room, bytes_of}
use Rattle.image_reading.specs.Reading.{HasBytes, Reached, IsPageOf, pages_of_size, Reads, HasRoom}
use Rattle.image_reading.specs.Soundness.{IsCoherent}
use Rattle.image_counts.specs.Entries.{IsFreePage, IsUnusedDataPage}
use Rattle.image_laws.specs.Frame.{SameMeaning}
use Rattle.image_laws.specs.Quiet.{IsMix}
use Rattle.content_laws.specs.Cut.{LeavesLowered}
use Rattle.content_laws.specs.Growth.{FillsFile, LeavesFilled, TakesPages, sized}
use Rattle.content_laws.specs.Inside.{WritesInside}
use Rattle.content_laws.specs.Range.{IsInRange, IsBeside}
use Rattle.content_laws.specs.Torn.{ReadsTorn, SameRange}

-- ---- bytes below the size

-- i is a file, and the range lies below its size.
pub record MayWrite (P : ℕ) (I : List ℕ) (i offset : ℕ) (bytes : List ℕ) : Type 0 where
  pub coherent : IsCoherent P I
  pub reached : Reached P I i
  pub file : HasBytes I i
  pub inside : offset + length bytes ≤ inode_size I i

-- A crash leaves the range torn and all else as it was, and what it leaves hangs on the bytes of the range alone. At the end the file has
-- the range.
pub record LeavesInside (P : ℕ) (I J : List ℕ) (i offset : ℕ) (bytes : List ℕ) : Type 0 where
  pub torn : (M : List ℕ) → IsMix I J M → ReadsTorn P I M i offset bytes
  pub hangs : (M N : List ℕ) → IsMix I J M → IsMix I J N → SameRange P I M N i offset bytes → SameMeaning P M N
  pub coherent : IsCoherent P J
  pub reads : (T : Tree) → Reads P I T → Reads P J (with_bytes T i (overwritten (bytes_of T i) offset bytes))
  pub room : (room : Room) → HasRoom P I room → HasRoom P J room

abbrev pub InsideMeaningLaw : Type 0
InsideMeaningLaw = (P : ℕ) (I J : List ℕ) (i offset : ℕ) (bytes : List ℕ) → MayWrite P I i offset bytes → WritesInside P I J i offset bytes → LeavesInside P I J i offset bytes

-- ---- new pages are filled, with bytes behind the size, and the file's own bytes may change

-- i is a file, and the pages have neither an owner nor a kind.
pub record MayFill (P : ℕ) (I : List ℕ) (i : ℕ) (pages : List ℕ) : Type 0 where
  pub coherent : IsCoherent P I
  pub reached : Reached P I i
  pub file : HasBytes I i
  pub unused : (j : ℕ) → Contains pages j → IsUnusedDataPage P I j

abbrev pub FilledMeaningLaw : Type 0
FilledMeaningLaw = (P : ℕ) (I J : List ℕ) (i offset : ℕ) (bytes pages : List ℕ) → MayFill P I i pages → FillsFile P I J i offset bytes pages → LeavesFilled P I J i offset bytes

-- ---- they become the file's

-- Page j is filled for file i, behind its end, and has no owner.
pub record IsFilledPage (P : ℕ) (I : List ℕ) (i j : ℕ) : Type 0 where
  pub free : IsFreePage P I j
  pub kind : page_kind P I j ≡ 1
  pub behind : pages_of_size (inode_size I i) ≤ page_offset P I j

pub record MayOwn (P : ℕ) (I : List ℕ) (i : ℕ) (pages : List ℕ) : Type 0 where
  pub coherent : IsCoherent P I
  pub reached : Reached P I i
  pub file : HasBytes I i
  pub filled : (j : ℕ) → Contains pages j → IsFilledPage P I i j

abbrev pub TakenMeaningLaw : Type 0
TakenMeaningLaw = (P : ℕ) (I J M : List ℕ) (i : ℕ) (pages : List ℕ) → MayOwn P I i pages → TakesPages P I J i pages → IsMix I J M → SameMeaning P I M

-- ---- the size rises

-- File i has one page for each offset from its end on, below that of the greater size z.
pub record MayRaise (P : ℕ) (I : List ℕ) (i z : ℕ) : Type 0 where
  pub coherent : IsCoherent P I
  pub reached : Reached P I i
  pub file : HasBytes I i
  pub larger : inode_size I i < z
  pub small : z ≤ 2 ^ 40
  pub full : (k : ℕ) → pages_of_size (inode_size I i) ≤ k → k < pages_of_size z → (j : ℕ) × IsPageOf P I i k j
  pub one : (h j k : ℕ) → pages_of_size (inode_size I i) ≤ k → k < pages_of_size z → IsPageOf P I i k h → IsPageOf P I i k j → h ≡ j

-- Below z its pages have the range, and beside it zeros behind the size.
pub record HoldsRange (P : ℕ) (I : List ℕ) (i z offset : ℕ) (bytes : List ℕ) : Type 0 where
  pub new : (o j : ℕ) → o < z → IsInRange offset bytes o → IsPageOf P I i (o / 4096) j → page_byte P I j (o % 4096) ≡ slice_index bytes (o - offset)
  pub zero : (o j : ℕ) → o < z → IsBeside offset bytes o → inode_size I i ≤ o → IsPageOf P I i (o / 4096) j → page_byte P I j (o % 4096) ≡ 0

-- A crash leaves I, which has not the new tree yet, or the new size, by the size word alone. With the new size the file has all its bytes.
pub record LeavesRaised (P : ℕ) (I : List ℕ) (i z offset : ℕ) (bytes : List ℕ) : Type 0 where
  pub commit : (M : List ℕ) → IsMix I (sized I i z) M → (M ≡ I) ⊎ (M ≡ sized I i z)
  pub hangs : (M N : List ℕ) → IsMix I (sized I i z) M → IsMix I (sized I i z) N → inode_size N i ≡ inode_size M i → N ≡ M
  pub not_yet : (T : Tree) → ¬ Reads P I (with_bytes T i (resized (overwritten (bytes_of T i) offset bytes) z))
  pub coherent : IsCoherent P (sized I i z)
  pub reads : (T : Tree) → Reads P I T → Reads P (sized I i z) (with_bytes T i (resized (overwritten (bytes_of T i) offset bytes) z))
  pub room : (room : Room) → HasRoom P I room → HasRoom P (sized I i z) room

abbrev pub RaisedMeaningLaw : Type 0
RaisedMeaningLaw = (P : ℕ) (I : List ℕ) (i z offset : ℕ) (bytes : List ℕ) → MayRaise P I i z → HoldsRange P I i z offset bytes → LeavesRaised P I i z offset bytes

-- ---- the size falls

pub record MayLower (P : ℕ) (I : List ℕ) (i z : ℕ) : Type 0 where
  pub coherent : IsCoherent P I
  pub reached : Reached P I i
  pub file : HasBytes I i
  pub less : z < inode_size I i

abbrev pub LoweredMeaningLaw : Type 0
LoweredMeaningLaw = (P : ℕ) (I : List ℕ) (i z : ℕ) → MayLower P I i z → LeavesLowered P I i z

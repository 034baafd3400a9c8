-- A write past the size and a truncation to more, in three intervals: the bytes with the new pages' kinds and offsets; the
-- new pages' owners, where there are new pages; the size.
use Rattle.std.specs.Prelude.{◌≡◌, ◌≢◌, ◌⊎◌, ℕ, ◌+◌, ◌-◌, ◌/◌, ◌%◌, ◌^◌, ◌<◌, ◌≤◌, List, length, set, Contains, Some, slice_get}
use Rattle.layout.specs.Fields.{word, IsKindOrOffset, inode_kind, inode_size, page_owner, page_kind, page_offset, page_byte}
use Rattle.layout.specs.Geometry.{inode_word_of, descriptor_word_of, page_word_of}
use Rattle.tree_model.specs.Step.{with_bytes, overwritten, resized}
use Rattle.tree_model.specs.Tree.{Tree, Room, bytes_of}
use Rattle.image_reading.specs.Reading.{HasBytes, Reached, IsPageOf, pages_of_size, Reads, HasRoom}
use Rattle.image_reading.specs.Tidy.{IsTidied}
use Rattle.image_counts.specs.Entries.{IsFreePage}
use Rattle.image_laws.specs.Frame.{SameMeaning}
use Rattle.image_laws.specs.Quiet.{IsMix}
use Rattle.content_laws.specs.Range.{IsInRange, IsWrittenByte, WritesBelow, WritesTail}
use Rattle.content_laws.specs.Gained.{HasGained}
use Rattle.content_laws.specs.Torn.{ReadsTorn, SameRange}

-- Inode i is a file of a tidy image, size z is more than its size, the range ends not past z, and these free pages are as many
-- as the file needs besides.
pub record CanGrow (P : ℕ) (W : List ℕ) (i z offset : ℕ) (bytes pages : List ℕ) : Type 0 where
  pub tidy : IsTidied P W
  pub reached : Reached P W i
  pub file : HasBytes W i
  pub larger : inode_size W i < z
  pub small : z ≤ 2 ^ 40
  pub inside : offset + length bytes ≤ z
  pub count : length pages ≡ pages_of_size z - pages_of_size (inode_size W i)
  pub free : (j : ℕ) → Contains pages j → IsFreePage P W j

-- a word of a page of the file, or of a new page, or a new page's kind or offset
pub data IsFillWord (P : ℕ) (W : List ℕ) (i : ℕ) (pages : List ℕ) : ℕ → Type 0 where
  old : (k j w : ℕ) → IsPageOf P W i k j → w < 512 → IsFillWord P W i pages (page_word_of P j w)
  new : (j w : ℕ) → Contains pages j → w < 512 → IsFillWord P W i pages (page_word_of P j w)
  descriptor : (j f : ℕ) → Contains pages j → IsKindOrOffset f → IsFillWord P W i pages (descriptor_word_of P j f)

-- From W to A the range is written below the size, and past it in the file's old pages and in the new ones, which follow them;
-- beside it there are zeros past the size. No other word changes.
pub record FillsFile (P : ℕ) (W A : List ℕ) (i offset : ℕ) (bytes pages : List ℕ) : Type 0 where
  pub size : length A ≡ length W
  pub below : WritesBelow P W A i offset bytes
  pub tail : WritesTail P W A i offset bytes
  pub kinds : (k j : ℕ) → slice_get pages k ≡ Some j → page_kind P A j ≡ 1
  pub offsets : (k j : ℕ) → slice_get pages k ≡ Some j → page_offset P A j ≡ pages_of_size (inode_size W i) + k
  pub filled : (k j o : ℕ) → slice_get pages k ≡ Some j → o / 4096 ≡ pages_of_size (inode_size W i) + k → IsWrittenByte offset bytes o 0 (page_byte P A j (o % 4096))
  pub others : (a : ℕ) → ¬ IsFillWord P W i pages a → word A a ≡ word W a

-- From A to B the new pages become the file's.
pub record TakesPages (P : ℕ) (A B : List ℕ) (i : ℕ) (pages : List ℕ) : Type 0 where
  pub size : length B ≡ length A
  pub owners : (j : ℕ) → Contains pages j → page_owner P B j ≡ i
  pub others : (a : ℕ) → ((j : ℕ) → Contains pages j → a ≢ descriptor_word_of P j 0) → word B a ≡ word A a

-- the file takes its size
abbrev pub sized : List ℕ → ℕ → ℕ → List ℕ
sized B i z = set B (inode_word_of i 2) z

-- ---- what a crash leaves, by what stands before each interval, and the end

-- While the bytes are stored it leaves the part of the range below the size torn, which hangs on those bytes alone, and where there is
-- none what means W.
pub record LeavesFilled (P : ℕ) (W A : List ℕ) (i offset : ℕ) (bytes : List ℕ) : Type 0 where
  pub torn : (M : List ℕ) → IsMix W A M → ReadsTorn P W M i offset bytes
  pub hangs : (M N : List ℕ) → IsMix W A M → IsMix W A N → SameRange P W M N i offset bytes → SameMeaning P M N
  pub filling : (M : List ℕ) → IsMix W A M → ((o : ℕ) → IsInRange offset bytes o → inode_size W i ≤ o) → SameMeaning P W M

abbrev pub FillingLaw : Type 0
FillingLaw = (P : ℕ) (W A : List ℕ) (i z offset : ℕ) (bytes pages : List ℕ) → CanGrow P W i z offset bytes pages → FillsFile P W A i offset bytes pages → LeavesFilled P W A i offset bytes

-- M means what A means, with the bytes of A and the size of W.
pub record MeansFilled (P : ℕ) (W A M : List ℕ) (i : ℕ) : Type 0 where
  pub means : SameMeaning P A M
  pub same_bytes : (j o : ℕ) → page_byte P M j o ≡ page_byte P A j o
  pub old_kind : inode_kind M i ≡ inode_kind W i
  pub old_size : inode_size M i ≡ inode_size W i

-- So it is while the owners are stored.
abbrev pub GrowthTakingLaw : Type 0
GrowthTakingLaw = (P : ℕ) (W A B M : List ℕ) (i z offset : ℕ) (bytes pages : List ℕ) → CanGrow P W i z offset bytes pages → FillsFile P W A i offset bytes pages → TakesPages P A B i pages
    → IsMix A B M → MeansFilled P W A M i

-- Then a crash leaves that or the end, which is tidy, with all the bytes.
pub record LeavesGrown (P : ℕ) (W A B C : List ℕ) (i z offset : ℕ) (bytes pages : List ℕ) : Type 0 where
  pub commit : (M : List ℕ) → IsMix B C M → SameMeaning P A M ⊎ (M ≡ C)
  pub tidy : IsTidied P C
  pub reads : (T : Tree) → Reads P W T → Reads P C (with_bytes T i (resized (overwritten (bytes_of T i) offset bytes) z))
  pub room : (room : Room) → HasRoom P W room → HasRoom P C room
  pub index : HasGained P W C i pages

abbrev pub GrowthLaw : Type 0
GrowthLaw = (P : ℕ) (W A B : List ℕ) (i z offset : ℕ) (bytes pages : List ℕ) → CanGrow P W i z offset bytes pages
    → FillsFile P W A i offset bytes pages → TakesPages P A B i pages → LeavesGrown P W A B (sized B i z) i z offset bytes pages

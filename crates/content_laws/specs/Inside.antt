-- A write that ends not past the size, in one interval.
use Rattle.std.specs.Prelude.{◌≡◌, ◌≢◌, ℕ, ◌+◌, ◌<◌, ◌≤◌, List, [], length}
use Rattle.layout.specs.Fields.{word, inode_size}
use Rattle.layout.specs.Geometry.{page_word_of}
use Rattle.tree_model.specs.Step.{with_bytes, overwritten}
use Rattle.tree_model.specs.Tree.{Tree, Room, bytes_of}
use Rattle.image_reading.specs.Reading.{HasBytes, Reached, IsPageOf, Reads, HasRoom}
use Rattle.image_reading.specs.Tidy.{IsTidied}
use Rattle.image_laws.specs.Frame.{SameMeaning}
use Rattle.image_laws.specs.Quiet.{IsMix}
use Rattle.content_laws.specs.Range.{WritesBelow}
use Rattle.content_laws.specs.Gained.{HasGained}
use Rattle.content_laws.specs.Torn.{ReadsTorn, SameRange}

-- Inode i is a file of a tidy image, and the range lies below its size.
pub record CanWrite (P : ℕ) (W : List ℕ) (i offset : ℕ) (bytes : List ℕ) : Type 0 where
  pub tidy : IsTidied P W
  pub reached : Reached P W i
  pub file : HasBytes W i
  pub inside : offset + length bytes ≤ inode_size W i

-- From W to J the range is written, and no word changes but those of the file's pages. (What stands past the size is free.)
pub record WritesInside (P : ℕ) (W J : List ℕ) (i offset : ℕ) (bytes : List ℕ) : Type 0 where
  pub size : length J ≡ length W
  pub writes : WritesBelow P W J i offset bytes
  pub others : (a : ℕ) → ((k j w : ℕ) → IsPageOf P W i k j → w < 512 → a ≢ page_word_of P j w) → word J a ≡ word W a

-- A crash leaves the range torn and all else as it was, and what it leaves hangs on the bytes of the range alone. The end is
-- tidy, and the file has the range.
pub record LeavesWritten (P : ℕ) (W J : List ℕ) (i offset : ℕ) (bytes : List ℕ) : Type 0 where
  pub torn : (M : List ℕ) → IsMix W J M → ReadsTorn P W M i offset bytes
  pub hangs : (M N : List ℕ) → IsMix W J M → IsMix W J N → SameRange P W M N i offset bytes → SameMeaning P M N
  pub tidy : IsTidied P J
  pub reads : (T : Tree) → Reads P W T → Reads P J (with_bytes T i (overwritten (bytes_of T i) offset bytes))
  pub room : (room : Room) → HasRoom P W room → HasRoom P J room
  pub index : HasGained P W J i []

abbrev pub InsideLaw : Type 0
InsideLaw = (P : ℕ) (W J : List ℕ) (i offset : ℕ) (bytes : List ℕ) → CanWrite P W i offset bytes → WritesInside P W J i offset bytes → LeavesWritten P W J i offset bytes

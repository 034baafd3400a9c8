-- On which words the reading of a write that crashed hangs.
use Rattle.std.specs.Prelude.{ℕ, ◌/◌, ◌%◌, ◌<◌, List}
use Rattle.layout.specs.Fields.{inode_size}
use Rattle.layout.specs.Geometry.{inode_word_of, page_word_of}
use Rattle.image_reading.specs.Reading.{IsPageOf}
use Rattle.content_laws.specs.Range.{IsInRange}

-- the size of file i, or a word of its pages in W that holds a byte of the range below its size there
pub data IsRangeWord (P : ℕ) (W : List ℕ) (i offset : ℕ) (bytes : List ℕ) : ℕ → Type 0 where
  size : IsRangeWord P W i offset bytes (inode_word_of i 2)
  byte : (o j : ℕ) → o < inode_size W i → IsInRange offset bytes o → IsPageOf P W i (o / 4096) j → IsRangeWord P W i offset bytes (page_word_of P j (o % 4096 / 8))

-- The bytes of a file after a range of it was written.
use Rattle.std.specs.Prelude.{◌≡◌, ◌⊎◌, ℕ, ◌+◌, ◌-◌, ◌/◌, ◌%◌, ◌<◌, ◌≤◌, List, length, slice_index}
use Rattle.layout.specs.Fields.{inode_size, page_byte}
use Rattle.image_reading.specs.Reading.{IsPageOf}

-- byte o of a file lies in the range of so many bytes from the offset on
pub record IsInRange (offset : ℕ) (bytes : List ℕ) (o : ℕ) : Type 0 where
  pub least : offset ≤ o
  pub below : o < offset + length bytes

-- or before it or behind it
abbrev pub IsBeside : ℕ → List ℕ → ℕ → Type 0
IsBeside offset bytes o = (o < offset) ⊎ (offset + length bytes ≤ o)

-- byte o is the range's, or beside it the one that was there
pub record IsWrittenByte (offset : ℕ) (bytes : List ℕ) (o before after : ℕ) : Type 0 where
  pub new : IsInRange offset bytes o → after ≡ slice_index bytes (o - offset)
  pub kept : IsBeside offset bytes o → after ≡ before

-- From I to J each byte of file i below its size is written so.
abbrev pub WritesBelow : ℕ → List ℕ → List ℕ → ℕ → ℕ → List ℕ → Type 0
WritesBelow P I J i offset bytes =
    (o j : ℕ) → o < inode_size I i → IsPageOf P I i (o / 4096) j → IsWrittenByte offset bytes o (page_byte P I j (o % 4096)) (page_byte P J j (o % 4096))

-- From I to J each byte of the pages of file i behind its size is the range's, and beside it zero.
abbrev pub WritesTail : ℕ → List ℕ → List ℕ → ℕ → ℕ → List ℕ → Type 0
WritesTail P I J i offset bytes = (o j : ℕ) → inode_size I i ≤ o → IsPageOf P I i (o / 4096) j → IsWrittenByte offset bytes o 0 (page_byte P J j (o % 4096))

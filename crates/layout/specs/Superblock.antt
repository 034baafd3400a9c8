-- The words of the superblock that say which volume this is.
use Rattle.std.specs.Prelude.{◌≡◌, ◌≢◌, ℕ, ◌<◌, Bool, IsTrue, ◌==◌, List, [], ◌∷◌, slice_index}
use Rattle.layout.specs.Geometry.{inodes_of, data_pages_of}

-- the bytes `SQRLPM01`, the first the least significant
abbrev pub magic : ℕ
magic = 0x31304D504C525153

abbrev pub version : ℕ
version = 1

-- the first five words: the magic, the version, the numbers of pages, of inodes and of data pages
abbrev pub head_of : ℕ → List ℕ
head_of pages = magic ∷ version ∷ pages ∷ inodes_of pages ∷ data_pages_of pages ∷ []

-- ---- the mark

-- the word that says whether the volume was closed, and its values for closed and not closed; every other value is not closed too
abbrev pub mark_word : ℕ
mark_word = 5

abbrev pub closed_mark : ℕ
closed_mark = 1

abbrev pub open_mark : ℕ
open_mark = 0

-- the volume was closed
abbrev pub has_mark : List ℕ → Bool
has_mark I = slice_index I mark_word == closed_mark

abbrev pub HasMark : List ℕ → Type 0
HasMark I = IsTrue (has_mark I)

-- ---- the words of the superblock

abbrev pub IsSuperblockWord : ℕ → Type 0
IsSuperblockWord a = a < 512

-- each of them but the mark is as it was
abbrev pub KeepsSuperblock : List ℕ → List ℕ → Type 0
KeepsSuperblock I J = (a : ℕ) → IsSuperblockWord a → a ≢ mark_word → slice_index J a ≡ slice_index I a

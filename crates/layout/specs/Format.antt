-- What formatting leaves.
use Rattle.std.specs.Prelude.{◌≡◌, ℕ, ◌*◌, ◌<◌, ◌≤◌, List, [], ◌∷◌, length, slice_index}
use Rattle.layout.specs.Geometry.{first_data_word_of, inode_word_of}
use Rattle.layout.specs.Superblock.{head_of, mark_word, closed_mark}
use Rattle.layout.specs.Fields.{word}

-- the root's first words: a directory of two links and no size, with its own number
abbrev pub root_words : List ℕ
root_words = 2 ∷ 2 ∷ 0 ∷ 1 ∷ []

-- The new words are the superblock's head and the mark of a volume that was closed, the root's inode, zeros in the tables, and the old
-- words from the data pages on.
pub record IsFormattedFrom (P : ℕ) (old new : List ℕ) : Type 0 where
  pub size : length new ≡ 512 * P
  pub head : (a : ℕ) → a < 5 → word new a ≡ slice_index (head_of P) a
  pub mark : word new mark_word ≡ closed_mark
  pub superblock : (a : ℕ) → mark_word < a → a < 512 → word new a ≡ 0
  pub root : (f : ℕ) → f < length root_words → word new (inode_word_of 1 f) ≡ slice_index root_words f
  pub tables : (a : ℕ) → inode_word_of 1 (length root_words) ≤ a → a < first_data_word_of P → word new a ≡ 0
  pub data_pages : (a : ℕ) → first_data_word_of P ≤ a → word new a ≡ word old a

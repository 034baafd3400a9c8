-- The words before the data pages.
use Rattle.std.specs.Prelude.{◌≡◌, ◌≢◌, ◌⊎◌, ℕ, ◌+◌, ◌-◌, ◌/◌, ◌<◌, ◌≤◌, List, slice_index}
use Rattle.layout.specs.Geometry.{first_data_word_of, inode_word_of}
use Rattle.layout.specs.Superblock.{head_of, mark_word, closed_mark}

-- The value that a formatted volume has in a word before its data pages. The root is inode 1, a directory of two links.
pub record IsTableValue (pages word value : ℕ) : Type 0 where
  pub head : word < 5 → value ≡ slice_index (head_of pages) word
  pub root_kind : word ≡ inode_word_of 1 0 → value ≡ 2
  pub root_links : word ≡ inode_word_of 1 1 → value ≡ 2
  pub root_own : word ≡ inode_word_of 1 3 → value ≡ 1
  pub mark : word ≡ mark_word → value ≡ closed_mark
  pub rest : mark_word < word → word ≢ inode_word_of 1 0 → word ≢ inode_word_of 1 1 → word ≢ inode_word_of 1 3 → value ≡ 0

-- each word from first to before end has the value that a formatted volume has there
pub record HasTableValues (pages first end : ℕ) (words : List ℕ) : Type 0 where
  pub each : (word : ℕ) → first ≤ word → word < end → IsTableValue pages word (slice_index words word)

-- a word from first to before end
pub record IsWithin (first end word : ℕ) : Type 0 where
  pub low : first ≤ word
  pub high : word < end

-- the words beside these are the old ones
pub record SameBeside (first end : ℕ) (old new : List ℕ) : Type 0 where
  pub each : (word : ℕ) → (word < first) ⊎ (end ≤ word) → slice_index new word ≡ slice_index old word

-- the stores, flushes and fence that write every word before the data pages but the first
abbrev pub tables_events : ℕ → ℕ
tables_events pages = let last = first_data_word_of pages - 1 in last + (last / 8 + 1) + 1

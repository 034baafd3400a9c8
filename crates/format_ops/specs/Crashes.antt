-- What a crash in a format leaves.
use Rattle.std.specs.Prelude.{◌≡◌, ◌≢◌, ◌⊎◌, ℕ, ◌≤◌, List, length, slice_index}
use Rattle.layout.specs.Geometry.{first_data_word_of}
use Rattle.layout.specs.Superblock.{magic}
use Rattle.layout.specs.Format.{IsFormattedFrom}

-- no volume, since the first word isn't the magic, over the old data pages
pub record IsHidden (pages : ℕ) (old image : List ℕ) : Type 0 where
  pub no_magic : slice_index image 0 ≢ magic
  pub long : length image ≡ length old
  pub data_pages : (word : ℕ) → first_data_word_of pages ≤ word → slice_index image word ≡ slice_index old word

-- the old words one for one, or no volume, or the formatted volume
abbrev pub IsOldHiddenOrFormatted : ℕ → List ℕ → List ℕ → Type 0
IsOldHiddenOrFormatted pages old image = (image ≡ old) ⊎ IsHidden pages old image ⊎ IsFormattedFrom pages old image

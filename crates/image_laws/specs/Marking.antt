-- What the mark of a volume changes in what an image means: nothing.
use Rattle.std.specs.Prelude.{◌≡◌, ◌≢◌, ℕ, List, length, slice_index}
use Rattle.layout.specs.Superblock.{mark_word}
use Rattle.image_reading.specs.Tidy.{IsTidied}
use Rattle.image_laws.specs.Frame.{SameMeaning}

-- J is I but for the mark.
pub record SameButMark (I J : List ℕ) : Type 0 where
  pub long : length J ≡ length I
  pub others : (a : ℕ) → a ≢ mark_word → slice_index J a ≡ slice_index I a

-- Then nothing is to be repaired in J where nothing is in I, and it means the same.
abbrev pub MarkLaw : Type 0
MarkLaw = (P : ℕ) (I J : List ℕ) → SameButMark I J → IsTidied P I → IsTidied P J × SameMeaning P I J

-- The intervals of a command that one word commits.
use Rattle.std.specs.Prelude.{◌≡◌, ◌⊎◌, ℕ, List}
use Rattle.tree_model.specs.Tree.{Tree, Room}
use Rattle.image_reading.specs.Reading.{Reads, HasRoom}
use Rattle.image_reading.specs.Tidy.{IsTidied}
use Rattle.image_laws.specs.Frame.{SameMeaning}
use Rattle.image_laws.specs.Quiet.{IsMix}

-- From B over I to J: a crash leaves what means W, or J. J is tidy, and its tree and its room are made of those of W.
pub record Commits (P : ℕ) (W B I J : List ℕ) (new_tree : Tree → Tree) (new_room : Room → Room) : Type 0 where
  pub before : (M : List ℕ) → IsMix B I M → SameMeaning P W M
  pub commit : (M : List ℕ) → IsMix I J M → SameMeaning P W M ⊎ (M ≡ J)
  pub tidy : IsTidied P J
  pub reads : (T : Tree) → Reads P W T → Reads P J (new_tree T)
  pub room : (room : Room) → HasRoom P W room → HasRoom P J (new_room room)
